-- Each poll that starts has an end, at most in its last round; and what is planned begins with the rounds before it.
use Rattle.std.proofs.Common.{◌≡◌, ℕ, zero, suc, ◌+◌, ◌<◌, ◌≤◌, List, [], ◌∷◌, ◌++◌, Option, Some, None, refl, sym, ◌∙◌, arith, subst, append_assoc, ◌⊎◌, inl, inr}
use Rattle.std.specs.Prelude.{slice_get, ℤ, pos, ◌+ℤ◌, ◌<ℤ◌}
use Rattle.std.proofs.Math.Decide.{dec_le}
use Rattle.oauth2_poll.specs.declared.device_poll.PollAnswer.{PollAnswer}
use Rattle.oauth2_poll.specs.declared.device_poll.PollAnswer.TheVariants.{Failed, Pending, SlowDown, Deciding}
use Rattle.oauth2_poll.specs.Trace.{PollInput, TraceEvent, answer_in_round, IsLate, Decides, GoesOn, IsReached, Ending, TooLong, OutOfRange, Late, Decided, Limited, IsEnding, interval_after, reading_at, answer_at, round, rounds}
use Rattle.std.proofs.lemmas.Int.{by_lt_z, ints}

-- the last round of a poll with this end, if it has rounds
abbrev pub last_round : Ending → ℕ
last_round TooLong = 0
last_round OutOfRange = 0
last_round (Late n) = n
last_round (Decided n) = n
last_round (Limited n) = n

dec_before : (a b : ℤ) → (a <ℤ b) ⊎ (¬ (a <ℤ b))
dec_before a b = by_lt_z a b inl (λ h. inr (λ k. omega (arith, ints)))

same_some : {A : Type 0} (x y : A) (o : Option A) → o ≡ Some x → o ≡ Some y → x ≡ y
same_some {A} x y o h k = let e : Some x ≡ Some y = sym h ∙ k in cc

dec_late_at : (p : PollInput) (n : ℕ) (s t : Option ℤ) → slice_get p.readings 0 ≡ s → slice_get p.readings n ≡ t → IsLate p n ⊎ (¬ (IsLate p n))
dec_late_at p n None t h k = inr (λ l. let e = l.first in cc)
dec_late_at p n (Some s) None h k = inr (λ l. let e = l.here in cc)
dec_late_at p n (Some s) (Some t) h k =
    elim (dec_before (s +ℤ pos p.timeout) t) [
      | inl b ↦ inl (record { start = s; moment = t; first = h; here = k; after = b })
      | inr b ↦ inr (λ l. b (rw (same_some s l.start _ h l.first, same_some t l.moment _ k l.here) l.after))
    ]

dec_late : (p : PollInput) (n : ℕ) → IsLate p n ⊎ (¬ (IsLate p n))
dec_late p n = dec_late_at p n _ _ refl refl

dec_decides_at : (p : PollInput) (n : ℕ) (a : Option PollAnswer) → answer_in_round p.answers n ≡ a → Decides p n ⊎ (¬ (Decides p n))
dec_decides_at p n None h = inr (λ d. cc)
dec_decides_at p n (Some Failed) h = inr (λ d. cc)
dec_decides_at p n (Some Pending) h = inr (λ d. cc)
dec_decides_at p n (Some SlowDown) h = inr (λ d. cc)
dec_decides_at p n (Some Deciding) h = inl h

dec_decides : (p : PollInput) (n : ℕ) → Decides p n ⊎ (¬ (Decides p n))
dec_decides p n = dec_decides_at p n _ refl

-- from a round that is reached on, at most so many rounds further
pub ending_from : (p : PollInput) (more n : ℕ) → IsReached p n → n + more ≡ p.max_polls → (e : Ending) × IsEnding p e × (n ≤ last_round e)
ending_from p zero n r full =
    elim (dec_late p n) [
      | inl l ↦ (Late n, (r, l), omega arith)
      | inr on_time ↦ elim (dec_decides p n) [
        | inl d ↦ (Decided n, (r, on_time, d), omega arith)
        | inr no_decision ↦ (Limited n, (r, on_time, no_decision, omega arith), omega arith)
      ]
    ]
ending_from p (suc more) n r full =
    elim (dec_late p n) [
      | inl l ↦ (Late n, (r, l), omega arith)
      | inr on_time ↦ elim (dec_decides p n) [
        | inl d ↦ (Decided n, (r, on_time, d), omega arith)
        | inr no_decision ↦
            let here : GoesOn p n = record { in_time = on_time; open_answer = no_decision; below = λ e. absurd (omega arith) } in
            let next : IsReached p (suc n) =
            record {
              fits = r.fits;
              in_range = r.in_range;
              from_one = omega arith;
              earlier = λ i one below. elim (dec_le n i) [ yes h ↦ (let e : n ≡ i = omega arith in subst (GoesOn p) e here) | no h ↦ r.earlier i one (omega arith) ];
            } in
            let x = ending_from p more (suc n) next (omega arith) in
            (x.0, x.1, let h = x.2 in omega arith)
      ]
    ]

-- what is planned from a poll that reaches round n: the rounds before it, its reading, and more
module _ (p : PollInput) (k : ℕ) where
  -- with nothing after round k, or its reading
  pub record Begins (m : ℕ) : Type 0 where
    pub rest : List (Option TraceEvent)
    pub is : rounds p m ≡ rounds p k ++ reading_at p (suc k) ∷ Some TraceEvent.Asked ∷ answer_at p (suc k) ∷ rest

  pub begins : (m : ℕ) → k < m → Begins m
  begins zero h = absurd (omega arith)
  begins (suc m) h =
      elim (dec_le m k) [
        | yes le ↦
            let e : m ≡ k = omega arith in
            record { rest = Some (TraceEvent.Slept (interval_after p (suc k))) ∷ []; is = rw e refl }
        | no gt ↦
            let b = begins m (omega arith) in
            record { rest = b.rest ++ round p (suc m); is = rw b.is (append_assoc (rounds p k) _ (round p (suc m))) }
      ]
