-- The bounds on an interval, by induction on the answers.
use Rattle.std.proofs.Common.{◌≡◌, ℕ, zero, suc, ◌+◌, ◌*◌, ◌≤◌, ◌<◌, List, [], ◌∷◌, take, arith}
use Rattle.std.specs.Prelude.{min, max}
use Rattle.std.specs.List.{fold}
use Rattle.std.specs.Duration.{max_nanos}
use Rattle.std.proofs.lemmas.Bool.Decides.{nat_tests}
use Rattle.oauth2_poll.specs.declared.device_poll.PollAnswer.{PollAnswer}
use Rattle.oauth2_poll.specs.declared.device_poll.PollAnswer.TheVariants.{Failed, Pending, SlowDown, Deciding}
use Rattle.oauth2_poll.specs.Step.{slow_down, next_interval, double}
use Rattle.oauth2_poll.specs.Trace.{PollInput, interval_after}
use Rattle.oauth2_poll.specs.Pacing.{slow_downs, failures, IsPaced, slow_downs_to}

doubled_fits : (d : ℕ) → d ≤ max_nanos → double d ≤ max_nanos
doubled_fits d h = grind (arith, nat_tests)

lower : (c d : ℕ) (xs : List PollAnswer) → min max_nanos (d + slow_down * slow_downs xs) ≤ fold (next_interval c) d xs
lower c d [] = omega arith
lower c d (Failed ∷ xs) = omega (arith, lower c (next_interval c d Failed) xs)
lower c d (Pending ∷ xs) = lower c d xs
lower c d (SlowDown ∷ xs) = omega (arith, lower c (next_interval c d SlowDown) xs)
lower c d (Deciding ∷ xs) = lower c d xs

upper : (c u d : ℕ) (xs : List PollAnswer) → d ≤ u → c ≤ u → d ≤ max_nanos → fold (next_interval c) d xs ≤ min max_nanos (u + slow_down * slow_downs xs)
upper c u d [] h k m = omega arith
upper c u d (Failed ∷ xs) h k m = let f = doubled_fits d m in upper c u (next_interval c d Failed) xs (omega arith) k (omega arith)
upper c u d (Pending ∷ xs) h k m = upper c u d xs h k m
upper c u d (SlowDown ∷ xs) h k m =
    let r = upper c (u + slow_down) (next_interval c d SlowDown) xs (omega arith) (omega arith) (omega arith) in omega (arith, r)
upper c u d (Deciding ∷ xs) h k m = upper c u d xs h k m

exact : (c d : ℕ) (xs : List PollAnswer) → d ≤ max_nanos → failures xs ≡ 0 → fold (next_interval c) d xs ≡ min max_nanos (d + slow_down * slow_downs xs)
exact c d [] m h = omega arith
exact c d (Failed ∷ xs) m h = absurd (omega arith)
exact c d (Pending ∷ xs) m h = exact c d xs m h
exact c d (SlowDown ∷ xs) m h = let r = exact c (next_interval c d SlowDown) xs (omega arith) h in omega (arith, r)
exact c d (Deciding ∷ xs) m h = exact c d xs m h

pub is_paced : (c d : ℕ) (xs : List PollAnswer) → d ≤ max_nanos → IsPaced d c xs (fold (next_interval c) d xs)
is_paced c d xs m =
    record { at_least = lower c d xs; at_most = upper c (max d c) d xs (omega arith) (omega arith) m; exact = exact c d xs m }

-- the sleeps of rounds 1 to n, together
abbrev pub sleeps_to : PollInput → ℕ → ℕ
sleeps_to p zero = 0
sleeps_to p (suc n) = sleeps_to p n + interval_after p (suc n)

-- where they are less than the greatest duration, no sleep was cut
pub waited : (p : PollInput) (n : ℕ) → sleeps_to p n < max_nanos → n * p.interval + slow_down * slow_downs_to p.answers n ≤ sleeps_to p n
waited p zero h = omega arith
waited p (suc n) h =
    let before = waited p n (omega arith) in
    let here = lower p.cap p.interval (take (suc n) p.answers) in
    omega (arith, before, here)
