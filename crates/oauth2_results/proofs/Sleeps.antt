-- The digits of a sleep.
use Rattle.std.proofs.Common.{◌≡◌, ℕ, ◌-◌, List, [], ◌∷◌, ◌++◌, length, refl, arith, append-nil, append_assoc}
use Rattle.std.specs.Fmt.{decimal, char_count, padded_integral, format_spec, styled_decimal}
use Rattle.oauth2_results.specs.Lines.{nine_digits}

-- a width of nine under the flag `0`
pub nine_digits_written : (n : ℕ) → styled_decimal (format_spec 32 0 4 9 18446744073709551615) n ≡ nine_digits n
unfolding padded_integral char_count
nine_digits_written n =
    let zeros : (9 - length (decimal n)) - 0 - 0 ≡ 9 - length (decimal n) = omega arith in
    rw (zeros, append-nil) refl

pub regroup : (a b c : List ℕ) → a ++ 46 ∷ (b ++ c) ≡ ((a ++ 46 ∷ []) ++ b) ++ c
regroup a b c = simp append_assoc
