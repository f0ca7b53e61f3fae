-- A marked token that a keeper tells of was seen in its last round: good still, or not.
use Rattle.std.proofs.Common.{◌≡◌, ℕ, ◌-◌, Bool, true, false, List, [], ◌∷◌, ◌++◌, Some, None, refl, ap, sym, ◌∙◌, subst, inl, inr}
use Rattle.std.specs.Prelude.{ℤ}
use Rattle.std.specs.Duration.{as_nanos}
use Rattle.jiff.specs.Types.{Timestamp}
use Rattle.oauth2_shared_token.specs.declared.renewal.Content.{Content}
use Rattle.oauth2_shared_token.specs.declared.renewal.Content.TheVariants as content
use Rattle.oauth2_shared_token.specs.declared.renewal.StoredValue.{StoredValue}
use Rattle.oauth2_shared_keeper.specs.declared.held.Held.{Held}
use Rattle.oauth2_shared_keeper.specs.declared.held.Held.TheVariants as held
use Rattle.oauth2_shared_keeper.specs.declared.outcome.Outcome.{Outcome}
use Rattle.oauth2_shared_keeper.specs.declared.outcome.Outcome.TheVariants.{Ends, Waits}
use Rattle.oauth2_shared_keeper.specs.declared.renewed.Renewed.{Renewed}
use Rattle.oauth2_shared_keeper.specs.declared.renewed.Renewed.TheVariants.{Kept, Unkept, InUse, LoggedOut, Lost}
use Rattle.oauth2_shared_keeper.specs.declared.renewed.Renewed.TheVariants.{Unanswered, Unclear, Unread, NoNextVersion}
use Rattle.oauth2_shared_keeper.specs.declared.settings.KeeperSettings.{KeeperSettings}
use Rattle.oauth2_shared_keeper.specs.Keeper.{Round, Blind, Seen, Renewing, at_rest_if, marked_if, after_renewal, content_verdict}
use Rattle.oauth2_shared_keeper.specs.Keeper.{IsRound, Holds}
use Rattle.oauth2_shared_keeper.specs.private.Turns.{told_by}

-- this was seen at this moment
abbrev WasMarked : {T : Type 0} → ℕ → ℕ → T → Bool → (T → ℤ → ℕ → Bool) → KeeperSettings → StoredValue T → Timestamp → Type 0
WasMarked renewal version token good is_good settings p now =
    (p.version ≡ version) × (p.content ≡ content.Marked token renewal)
    × (is_good token now.nanosecond (as_nanos settings.old_margin) ≡ good)

module _ {T E : Type 0} where
  -- it tells of a mark of another renewal, with its version
  abbrev is_of_mark : Held T E → Bool
  is_of_mark (held.Good t) = false
  is_of_mark (held.Old other v t) = true
  is_of_mark held.LoggedOut = false
  is_of_mark (held.Unkept other v t) = false
  is_of_mark (held.Unanswered other v t error) = false
  is_of_mark (held.Unclear other v t) = false
  is_of_mark (held.NoNextVersion t) = false
  is_of_mark (held.Unfinished other v t) = true
  is_of_mark (held.InUse other t) = false
  is_of_mark held.Lost = false
  is_of_mark held.Unread = false

  -- the end of a renewal does not
  renewed_of_none : (name : ℕ) (end : Renewed T E) → is_of_mark (told_by (after_renewal name end)) ≡ false
  renewed_of_none name (Kept t) = refl
  renewed_of_none name (Unkept v t) = refl
  renewed_of_none name (InUse other t) = refl
  renewed_of_none name LoggedOut = refl
  renewed_of_none name Lost = refl
  renewed_of_none name (Unanswered v t error) = refl
  renewed_of_none name (Unclear v t) = refl
  renewed_of_none name Unread = refl
  renewed_of_none name (NoNextVersion t) = refl

  rest_of_none : (b : Bool) (t : T) (outcome : Outcome T E) → at_rest_if b t ≡ Some outcome → is_of_mark (told_by outcome) ≡ false
  rest_of_none true t outcome is =
      let e : Some (Ends (held.Good t)) ≡ Some outcome = is in
      let same : Ends (held.Good t) ≡ outcome = cc in
      sym (ap (λ (o : Outcome T E). is_of_mark (told_by o)) same)
  rest_of_none false t outcome is = absurd (let e : None ≡ Some outcome = is in cc)

module _ {T : Type 0} (E : Type 0) (renewal version : ℕ) (token : T) where
  -- what is told of a marked token, which is good still or not
  abbrev told : Bool → Held T E
  told good = told_by (marked_if good renewal version token)

  told_of_mark : (good : Bool) → is_of_mark (told good) ≡ true
  told_of_mark true = refl
  told_of_mark false = refl

  not_told : (good : Bool) (other : Held T E) → is_of_mark other ≡ false → other ≡ told good → ⊥
  not_told good other none is = let e : false ≡ true = sym none ∙ (ap is_of_mark is ∙ told_of_mark good) in cc

  marked : (good b : Bool) (other v : ℕ) (t : T) (outcome : Outcome T E) → Some (marked_if b other v t) ≡ Some outcome
      → told_by outcome ≡ told good
      → (v ≡ version) × (other ≡ renewal) × (t ≡ token) × (b ≡ good)
  marked true true other v t outcome is same =
      let e : Ends (held.Old other v t) ≡ outcome = cc in
      let k : held.Old other v t ≡ held.Old renewal version token = ap told_by e ∙ same in (cc, cc, cc, refl)
  marked true false other v t outcome is same =
      let e : Waits (held.Unfinished other v t) ≡ outcome = cc in
      let k : held.Unfinished other v t ≡ held.Old renewal version token = ap told_by e ∙ same in absurd (cc)
  marked false true other v t outcome is same =
      let e : Ends (held.Old other v t) ≡ outcome = cc in
      let k : held.Old other v t ≡ held.Unfinished renewal version token = ap told_by e ∙ same in absurd (cc)
  marked false false other v t outcome is same =
      let e : Waits (held.Unfinished other v t) ≡ outcome = cc in
      let k : held.Unfinished other v t ≡ held.Unfinished renewal version token = ap told_by e ∙ same in (cc, cc, cc, refl)

  module _ (good : Bool) (is_good : T → ℤ → ℕ → Bool) (settings : KeeperSettings) where
    content_marked : (now : Timestamp) (v : ℕ) (c : Content T) (outcome : Outcome T E) → content_verdict is_good settings now v c ≡ Some outcome
        → told_by outcome ≡ told good
        → (v ≡ version) × (c ≡ content.Marked token renewal) × (is_good token now.nanosecond (as_nanos settings.old_margin) ≡ good)
    content_marked now v (content.AtRest t) outcome is same =
        absurd (not_told good (told_by outcome) (rest_of_none (is_good t now.nanosecond (as_nanos settings.margin)) t outcome is) same)
    content_marked now v (content.Marked t other) outcome is same =
        let k = marked good (is_good t now.nanosecond (as_nanos settings.old_margin)) other v t outcome is same in (
          k.0,
          ap (λ (x : T). content.Marked x other) k.2 ∙ ap (λ (n : ℕ). content.Marked token n) k.1,
          subst (λ (x : T). is_good x now.nanosecond (as_nanos settings.old_margin) ≡ good) k.2 k.3,
        )
    content_marked now v content.Empty outcome is same =
        absurd (
        let e : Ends held.LoggedOut ≡ outcome = cc in
        not_told good held.LoggedOut refl (ap told_by e ∙ same))

    seen_in : (r : Round T E) (outcome : Outcome T E) → IsRound is_good settings r outcome → told_by outcome ≡ told good
        → (p : StoredValue T) × (now : Timestamp) × (r ≡ Seen p now)
        × WasMarked renewal version token good is_good settings p now
    seen_in Blind outcome is same = absurd (not_told good held.Unread refl (sym (ap told_by is) ∙ same))
    seen_in (Seen p now) outcome is same = (p, now, refl, content_marked now p.version p.content outcome is same)
    seen_in (Renewing p now name calls end) outcome is same =
        absurd (not_told good (told_by (after_renewal name end)) (renewed_of_none name end) (sym (ap told_by is.2) ∙ same))

    -- the last round saw it
    abbrev pub IsLast : List (Round T E) → Type 0
    IsLast rounds =
        (before : List (Round T E)) × (p : StoredValue T) × (now : Timestamp) × (rounds ≡ before ++ Seen p now ∷ [])
        × WasMarked renewal version token good is_good settings p now

    at_last : (r : Round T E) (outcome : Outcome T E) → IsRound is_good settings r outcome → told_by outcome ≡ told good → IsLast (r ∷ [])
    at_last r outcome is same =
        let k = seen_in r outcome is same in ([], k.0, k.1, ap (λ (x : Round T E). x ∷ []) k.2, k.3)

    pub seen_at_last : (left : ℕ) (rounds : List (Round T E)) (result : Held T E) → result ≡ told good → Holds is_good settings left rounds result
        → IsLast rounds
    seen_at_last left [] result is h = absurd (not_told good held.Unread refl (sym h.1 ∙ is))
    seen_at_last left (r ∷ []) result is (some, inl ends) = at_last r (Ends result) ends is
    seen_at_last left (r ∷ []) result is (some, inr last) = at_last r (Waits result) last.1 is
    seen_at_last left (r ∷ next ∷ rounds) result is h =
        let k = seen_at_last (left - 1) (next ∷ rounds) result is h.1 in
        (r ∷ k.0, k.1, k.2, ap (λ (l : List (Round T E)). r ∷ l) k.3, k.4)
