-- What is told as unfinished is told after all rounds, and all their sleeps.
use Rattle.std.proofs.Common.{◌≡◌, ℕ, zero, suc, ◌+◌, ◌-◌, ◌*◌, Bool, true, false, List, [], ◌∷◌, ◌++◌, Some, None, refl, ap, sym, ◌∙◌, subst, arith, inl, inr}
use Rattle.std.specs.Prelude.{ℤ, pos, ◌+ℤ◌, ◌≤ℤ◌}
use Rattle.std.specs.Duration.{as_nanos}
use Rattle.std.proofs.lemmas.Int.{ints}
use Rattle.jiff.specs.Types.{Timestamp}
use Rattle.oauth2_shared_token.specs.declared.renewal.Content.{Content}
use Rattle.oauth2_shared_token.specs.declared.renewal.Content.TheVariants as content
use Rattle.oauth2_shared_token.specs.declared.renewal.StoredValue.{StoredValue}
use Rattle.oauth2_shared_keeper.specs.declared.held.Held.TheVariants as held
use Rattle.oauth2_shared_keeper.specs.declared.outcome.Outcome.{Outcome}
use Rattle.oauth2_shared_keeper.specs.declared.outcome.Outcome.TheVariants.{Ends, Waits}
use Rattle.oauth2_shared_keeper.specs.declared.renewed.Renewed.{Renewed}
use Rattle.oauth2_shared_keeper.specs.declared.renewed.Renewed.TheVariants.{Kept, Unkept, InUse, LoggedOut, Lost}
use Rattle.oauth2_shared_keeper.specs.declared.renewed.Renewed.TheVariants.{Unanswered, Unclear, Unread, NoNextVersion}
use Rattle.oauth2_shared_keeper.specs.declared.settings.KeeperSettings.{KeeperSettings}
use Rattle.oauth2_shared_keeper.specs.Keeper.{Round, Blind, Seen, Renewing, at_rest_if, marked_if, after_renewal, content_verdict}
use Rattle.oauth2_shared_keeper.specs.Keeper.{IsRound, Holds, WorldCall, Slept, events_of, events_in}
use Rattle.oauth2_shared_keeper.specs.KeeperLaws.{GoesOn}
use Rattle.oauth2_shared_keeper.proofs.KeeperFacts.{some_left}

-- the last of one, and the others
only_one : {R : Type 0} (before : List R) (r last : R) → r ∷ [] ≡ before ++ last ∷ [] → r ≡ last
only_one [] r last e = cc
only_one (b ∷ []) r last e = absurd (let k : [] ≡ last ∷ [] = cc in cc)
only_one {R} (b ∷ c ∷ bs) r last e = absurd (let k : [] ≡ c ∷ (bs ++ last ∷ []) = cc in cc)

after_first : {R : Type 0} (before : List R) (r next : R) (rounds : List R) (last : R) → r ∷ next ∷ rounds ≡ before ++ last ∷ []
    → (others : List R) × (next ∷ rounds ≡ others ++ last ∷ [])
after_first [] r next rounds last e = absurd (let k : next ∷ rounds ≡ [] = cc in cc)
after_first (b ∷ bs) r next rounds last e = let k : next ∷ rounds ≡ bs ++ last ∷ [] = cc in (bs, k)

module _ {T E : Type 0} where
  -- the outcome ends the call, and tells an unfinished renewal
  abbrev ends_unfinished : Outcome T E → Bool
  ends_unfinished (Waits told) = false
  ends_unfinished (Ends (held.Good t)) = false
  ends_unfinished (Ends (held.Old other v t)) = false
  ends_unfinished (Ends held.LoggedOut) = false
  ends_unfinished (Ends (held.Unkept other v t)) = false
  ends_unfinished (Ends (held.Unanswered other v t error)) = false
  ends_unfinished (Ends (held.Unclear other v t)) = false
  ends_unfinished (Ends (held.NoNextVersion t)) = false
  ends_unfinished (Ends (held.Unfinished other v t)) = true
  ends_unfinished (Ends (held.InUse other t)) = false
  ends_unfinished (Ends held.Lost) = false
  ends_unfinished (Ends held.Unread) = false

  -- no round does
  renewed_waits : (name : ℕ) (end : Renewed T E) → ends_unfinished (after_renewal name end) ≡ false
  renewed_waits name (Kept t) = refl
  renewed_waits name (Unkept v t) = refl
  renewed_waits name (InUse other t) = refl
  renewed_waits name LoggedOut = refl
  renewed_waits name Lost = refl
  renewed_waits name (Unanswered v t error) = refl
  renewed_waits name (Unclear v t) = refl
  renewed_waits name Unread = refl
  renewed_waits name (NoNextVersion t) = refl

  rest_waits : (b : Bool) (t : T) (outcome : Outcome T E) → at_rest_if b t ≡ Some outcome → ends_unfinished outcome ≡ false
  rest_waits true t outcome is =
      let e : Some (Ends (held.Good t)) ≡ Some outcome = is in
      let same : Ends (held.Good t) ≡ outcome = cc in
      sym (ap ends_unfinished same)
  rest_waits false t outcome is = absurd (let e : None ≡ Some outcome = is in cc)

  mark_waits : (b : Bool) (other v : ℕ) (t : T) (outcome : Outcome T E) → Some (marked_if b other v t) ≡ Some outcome → ends_unfinished outcome ≡ false
  mark_waits true other v t outcome is = let same : Ends (held.Old other v t) ≡ outcome = cc in sym (ap ends_unfinished same)
  mark_waits false other v t outcome is = let same : Waits (held.Unfinished other v t) ≡ outcome = cc in sym (ap ends_unfinished same)

  module _ (is_good : T → ℤ → ℕ → Bool) (settings : KeeperSettings) where
    content_waits : (now : Timestamp) (v : ℕ) (c : Content T) (outcome : Outcome T E) → content_verdict is_good settings now v c ≡ Some outcome
        → ends_unfinished outcome ≡ false
    content_waits now v (content.AtRest t) outcome is = rest_waits (is_good t now.nanosecond (as_nanos settings.margin)) t outcome is
    content_waits now v (content.Marked t other) outcome is = mark_waits (is_good t now.nanosecond (as_nanos settings.old_margin)) other v t outcome is
    content_waits now v content.Empty outcome is = let same : Ends held.LoggedOut ≡ outcome = cc in sym (ap ends_unfinished same)

    round_waits : (r : Round T E) (outcome : Outcome T E) → IsRound is_good settings r outcome → ends_unfinished outcome ≡ false
    round_waits Blind outcome is = ap ends_unfinished is
    round_waits (Seen p now) outcome is = content_waits now p.version p.content outcome is
    round_waits (Renewing p now name calls end) outcome is = ap ends_unfinished is.2 ∙ renewed_waits name end

    -- after a round the clock is no earlier
    after_round : (r : Round T E) (from : ℤ) (rest : List WorldCall) → GoesOn from (events_of r ++ rest)
        → (later : ℤ) × (from ≤ℤ later) × GoesOn later rest
    after_round Blind from rest goes = (from, omega (arith, ints), goes)
    after_round (Seen p now) from rest goes = (now.nanosecond, goes.0, goes.1)
    after_round (Renewing p now name calls end) from rest goes = (now.nanosecond, goes.0, goes.1)

    -- the last reading comes after all the sleeps
    pub comes_late : (w : ℕ) → as_nanos settings.wait ≡ w → (n left : ℕ) (rounds before : List (Round T E)) (p : StoredValue T) (now : Timestamp)
        (renewal version : ℕ) (token : T) → left ≡ n + 1 → Holds is_good settings left rounds (held.Unfinished renewal version token)
        → rounds ≡ before ++ Seen p now ∷ [] → (from : ℤ) → GoesOn from (events_in settings.wait rounds) → (from +ℤ pos (n * w)) ≤ℤ now.nanosecond
    comes_late w is n left [] before p now renewal version token count h ends from goes =
        absurd (let k : held.Unfinished renewal version token ≡ held.Unread = h.1 in cc)
    comes_late w is n left (r ∷ []) before p now renewal version token count (some, inl never) ends from goes =
        absurd (let k : true ≡ false = round_waits r (Ends (held.Unfinished renewal version token)) never in cc)
    comes_late w is zero left (r ∷ []) before p now renewal version token count (some, inr last) ends from goes =
        let same : r ≡ Seen p now = only_one before r (Seen p now) ends in
        let told : GoesOn from (events_of {E = E} (Seen p now)) = subst (λ (x : Round T E). GoesOn from (events_of x)) same goes in
        omega (arith, ints, told.0)
    comes_late w is (suc n) left (r ∷ []) before p now renewal version token count (some, inr last) ends from goes = absurd (omega (arith, last.0, count))
    comes_late w is zero left (r ∷ next ∷ rounds) before p now renewal version token count h ends from goes =
        let more = some_left is_good settings (left - 1) next rounds (held.Unfinished renewal version token) h.1 in absurd (omega (arith, more, count))
    comes_late w is (suc n) left (r ∷ next ∷ rounds) before p now renewal version token count h ends from goes =
        let on = after_round r from (Slept settings.wait ∷ events_in settings.wait (next ∷ rounds)) goes in
        let others = after_first before r next rounds (Seen p now) ends in
        let late = comes_late w is n (left - 1) (next ∷ rounds) others.0 p now renewal version token (omega (arith, count)) h.1 others.1 (on.0 +ℤ pos (as_nanos settings.wait)) on.2 in
        omega (arith, ints, late, on.1, is)
