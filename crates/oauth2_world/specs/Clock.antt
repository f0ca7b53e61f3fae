-- The clock of a script: it shows its moments one after the other, and then the last one again.
use Rattle.std.specs.Prelude.{ℕ, zero, suc, ℤ, pos, List, [], ◌∷◌}

-- the moment that was shown last, and those that are left; in nanoseconds since 1970
pub record Clock : Type 0 where
  pub last : ℤ
  pub moments : List ℤ

-- a clock before its first reading; without moments it shows 0, the start of 1970
abbrev pub new_clock : List ℤ → Clock
new_clock moments = record { last = pos 0; moments = moments }

-- the first of the moments that are left, or `last` if none is left
abbrev pub next_moment : ℤ → List ℤ → ℤ
next_moment last [] = last
next_moment last (moment ∷ moments) = moment

-- the moments that are left after one reading
abbrev pub later_moments : List ℤ → List ℤ
later_moments [] = []
later_moments (moment ∷ moments) = moments

-- what the clock shows at its next reading, in nanoseconds since 1970
abbrev pub reading_of : Clock → ℤ
reading_of clock = next_moment clock.last clock.moments

-- the clock after one reading
abbrev pub after_reading : Clock → Clock
after_reading clock = record { last = reading_of clock; moments = later_moments clock.moments }

-- what the clock shows at its next `n` readings, in nanoseconds since 1970
abbrev pub readings_of : Clock → ℕ → List ℤ
readings_of clock zero = []
readings_of clock (suc n) = reading_of clock ∷ readings_of (after_reading clock) n
