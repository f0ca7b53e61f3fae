-- What is planned, from a poll after some rounds on.
use Rattle.std.proofs.Common.{◌≡◌, ℕ, zero, suc, ◌-◌, ◌<◌, ◌≤◌, List, [], ◌∷◌, ◌++◌, map, Option, Some, refl, arith, subst, append_assoc}
use Rattle.std.proofs.Math.Decide.{dec_le}
use Rattle.oauth2_poll.specs.State.{PollState}
use Rattle.oauth2_poll.specs.Trace.{PollInput, TraceEvent, Asked, IsLate, Ending, TooLong, OutOfRange, Late, Decided, Limited, IsEnding, reading_at, answer_at, rounds, poll_events}
use Rattle.oauth2_poll.proofs.Open.{IsOpen, reached}
use Rattle.oauth2_poll.proofs.Endings.{begins, last_round, ending_from}

one_less : (k : ℕ) → suc k - 1 ≡ k
one_less k = omega arith

module _ (p : PollInput) (k : ℕ) (xs : List TraceEvent) (poll : PollState) (o : IsOpen p k xs poll) where
  -- the next round's reading, request and answer follow
  pub record Goes (plan : List (Option TraceEvent)) : Type 0 where
    pub rest : List (Option TraceEvent)
    pub is : plan ≡ map Some xs ++ reading_at p (suc k) ∷ Some Asked ∷ answer_at p (suc k) ∷ rest

  -- its reading follows
  pub record Reads (plan : List (Option TraceEvent)) : Type 0 where
    pub rest : List (Option TraceEvent)
    pub is : plan ≡ map Some xs ++ reading_at p (suc k) ∷ rest

  past : (m : ℕ) (tail : List (Option TraceEvent)) → k < m → Goes (reading_at p 0 ∷ (rounds p m ++ tail))
  past m tail h =
      let b = begins p k m h in
      let s = o.so_far in
      record { rest = b.rest ++ tail; is = rw (s, b.is, append_assoc (rounds p k)) refl }

  last : (m : ℕ) → k ≤ m → Goes (reading_at p 0 ∷ (rounds p m ++ reading_at p (suc m) ∷ Some Asked ∷ answer_at p (suc m) ∷ []))
  last m h =
      let s = o.so_far in
      elim (dec_le m k) [
        | yes le ↦ let e : m ≡ k = omega arith in record { rest = []; is = rw (s, e) refl }
        | no gt ↦ past m _ (omega arith)
      ]

  pub goes : (e : Ending) → IsEnding p e → suc k ≤ last_round e → ¬ (IsLate p (suc k)) → Goes (poll_events p e)
  goes TooLong e h l = absurd (omega arith)
  goes OutOfRange e h l = absurd (omega arith)
  goes (Late zero) e h l = absurd (omega arith)
  goes (Late (suc m)) e h l =
      rw (one_less m) (elim (dec_le m k) [
        | yes le ↦ absurd (l (let q : m ≡ k = omega arith in subst (λ (x : ℕ). IsLate p (suc x)) q e.1))
        | no gt ↦ past m _ (omega arith)
      ])
  goes (Decided zero) e h l = absurd (omega arith)
  goes (Decided (suc m)) e h l = rw (one_less m) (last m (omega arith))
  goes (Limited zero) e h l = absurd (omega arith)
  goes (Limited (suc m)) e h l = rw (one_less m) (last m (omega arith))

  first_of_goes : (plan : List (Option TraceEvent)) → Goes plan → Reads plan
  first_of_goes plan b = record { rest = Some Asked ∷ answer_at p (suc k) ∷ b.rest; is = b.is }

  pub reads : (e : Ending) → IsEnding p e → suc k ≤ last_round e → Reads (poll_events p e)
  reads TooLong e h = absurd (omega arith)
  reads OutOfRange e h = absurd (omega arith)
  reads (Late zero) e h = absurd (omega arith)
  reads (Late (suc m)) e h =
      let s = o.so_far in
      rw (one_less m) (elim (dec_le m k) [
        | yes le ↦ let q : m ≡ k = omega arith in record { rest = []; is = rw (s, q) refl }
        | no gt ↦ first_of_goes _ (past m _ (omega arith))
      ])
  reads (Decided zero) e h = absurd (omega arith)
  reads (Decided (suc m)) e h = rw (one_less m) (first_of_goes _ (last m (omega arith)))
  reads (Limited zero) e h = absurd (omega arith)
  reads (Limited (suc m)) e h = rw (one_less m) (first_of_goes _ (last m (omega arith)))

  -- the end that the poll has
  pub an_ending : (e : Ending) × IsEnding p e × (suc k ≤ last_round e)
  an_ending = let l = o.left in let s = o.some_left in ending_from p (poll.polls_left - 1) (suc k) (reached p k xs poll o) (omega arith)
