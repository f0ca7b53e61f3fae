-- The laws of a keeper.
use Rattle.std.proofs.Common.{◌≡◌, ℕ, zero, suc, ◌+◌, ◌-◌, ◌*◌, ◌≤◌, Bool, true, false, List, [], ◌∷◌, ◌++◌, Some, None, refl, ap, sym, ◌∙◌}
use Rattle.std.proofs.Common.{subst, arith, inl, inr}
use Rattle.std.specs.Prelude.{ℤ, IsTrue}
use Rattle.std.specs.Duration.{as_nanos}
use Rattle.std.specs.List.{Contains}
use Rattle.std.proofs.lemmas.List.{append-nil}
use Rattle.std.proofs.lemmas.List.Elements.{Contains-append_cases}
use Rattle.jiff.specs.Types.{Timestamp}
use Rattle.oauth2_shared_token.specs.declared.renewal.Content.{Content}
use Rattle.oauth2_shared_token.specs.declared.renewal.Content.TheVariants as content
use Rattle.oauth2_shared_keeper.specs.declared.held.Held.{Held}
use Rattle.oauth2_shared_keeper.specs.declared.held.Held.TheVariants as held
use Rattle.oauth2_shared_keeper.specs.declared.outcome.Outcome.{Outcome}
use Rattle.oauth2_shared_keeper.specs.declared.outcome.Outcome.TheVariants.{Ends, Waits}
use Rattle.oauth2_shared_keeper.specs.declared.renewed.Renewed.{Renewed}
use Rattle.oauth2_shared_keeper.specs.declared.renewed.Renewed.TheVariants.{Kept, Unkept, InUse, LoggedOut, Lost}
use Rattle.oauth2_shared_keeper.specs.declared.renewed.Renewed.TheVariants.{Unanswered, Unclear, Unread, NoNextVersion}
use Rattle.oauth2_shared_keeper.specs.declared.settings.KeeperSettings.{KeeperSettings}
use Rattle.oauth2_shared_keeper.specs.Call.{Call, Load, Refresh, refreshes_in}
use Rattle.oauth2_shared_keeper.specs.Renewal.{first_turn, IsEnd}
use Rattle.oauth2_shared_keeper.specs.Laws.{new_token_in}
use Rattle.oauth2_shared_keeper.specs.Keeper.{Round, Blind, Seen, Renewing, at_rest_if, marked_if, after_renewal, content_verdict, IsRound}
use Rattle.oauth2_shared_keeper.specs.Keeper.{Holds, calls_of, calls_in, WorldCall, Reading, Slept, Drawn, events_of, events_in}
use Rattle.oauth2_shared_keeper.specs.KeeperLaws.{renewals_in, slept_in, token_in, HandsOut}
use Rattle.oauth2_shared_keeper.specs.private.Turns.{told_by}
use Rattle.oauth2_shared_keeper.proofs.Runs.{refreshes_in-append}
use Rattle.oauth2_shared_keeper.proofs.History.{the_only, state_after, sends_few, none_given, kept_was_given, handed_over}
use Rattle.oauth2_shared_keeper.proofs.Unsent.{waiting_unsent}

slept_in-append : (xs ys : List WorldCall) → slept_in (xs ++ ys) ≡ slept_in xs + slept_in ys
slept_in-append [] ys = omega arith
slept_in-append (Reading now ∷ xs) ys = slept_in-append xs ys
slept_in-append (Slept wait ∷ xs) ys = let e = slept_in-append xs ys in omega arith
slept_in-append (Drawn name ∷ xs) ys = slept_in-append xs ys

module _ {T E : Type 0} where
  -- no round sleeps
  no_sleep : (r : Round T E) → slept_in (events_of r) ≡ 0
  no_sleep Blind = refl
  no_sleep (Seen p now) = refl
  no_sleep (Renewing p now name calls end) = refl

  renewals_more : (r : Round T E) (rounds : List (Round T E)) → renewals_in (r ∷ rounds) ≤ 1 + renewals_in rounds
  renewals_more Blind rounds = omega arith
  renewals_more (Seen p now) rounds = omega arith
  renewals_more (Renewing p now name calls end) rounds = omega arith

  -- a keeper hands over what a renewal does
  same_new : (name : ℕ) (end : Renewed T E) → token_in (told_by (after_renewal name end)) ≡ new_token_in end
  same_new name (Kept new) = refl
  same_new name (Unkept version new) = refl
  same_new name (InUse other token) = refl
  same_new name LoggedOut = refl
  same_new name Lost = refl
  same_new name (Unanswered version token error) = refl
  same_new name (Unclear version token) = refl
  same_new name Unread = refl
  same_new name (NoNextVersion token) = refl

  -- only a renewal that kept its token tells a good one
  good_is_kept : (name : ℕ) (end : Renewed T E) (token : T) → told_by (after_renewal name end) ≡ held.Good token → end ≡ Kept token
  good_is_kept name (Kept new) token e =
      let k : held.Good new ≡ held.Good token = e in
      let same : new ≡ token = cc in
      ap (λ (t : T). Kept t) same
  good_is_kept name (Unkept version new) token e = absurd (let k : held.Unkept name version new ≡ held.Good token = e in cc)
  good_is_kept name (InUse other old) token e = absurd (let k : held.InUse other old ≡ held.Good token = e in cc)
  good_is_kept name LoggedOut token e = absurd (let k : held.LoggedOut ≡ held.Good token = e in cc)
  good_is_kept name Lost token e = absurd (let k : held.Lost ≡ held.Good token = e in cc)
  good_is_kept name (Unanswered version old error) token e =
      absurd (let k : held.Unanswered name version old error ≡ held.Good token = e in cc)
  good_is_kept name (Unclear version old) token e = absurd (let k : held.Unclear name version old ≡ held.Good token = e in cc)
  good_is_kept name Unread token e = absurd (let k : held.Unread ≡ held.Good token = e in cc)
  good_is_kept name (NoNextVersion old) token e = absurd (let k : held.NoNextVersion old ≡ held.Good token = e in cc)

  -- what is told of a token at rest, and of a marked one
  rests_good : (b : Bool) (t token : T) (outcome : Outcome T E) → at_rest_if b t ≡ Some outcome → told_by outcome ≡ held.Good token
      → (t ≡ token) × IsTrue b
  rests_good true t token outcome is told =
      let e : Some (Ends (held.Good t)) ≡ Some outcome = is in
      let same : Ends (held.Good t) ≡ outcome = cc in
      let k : held.Good t ≡ held.Good token = ap told_by same ∙ told in (cc, refl)
  rests_good false t token outcome is told = absurd (let e : None ≡ Some outcome = is in cc)

  not_marked : (b : Bool) (renewal version : ℕ) (t token : T) (outcome : Outcome T E) → Some (marked_if b renewal version t) ≡ Some outcome
      → told_by outcome ≡ held.Good token → ⊥
  not_marked true renewal version t token outcome is told =
      let e : Some (Ends (held.Old renewal version t)) ≡ Some outcome = is in
      let same : Ends (held.Old renewal version t) ≡ outcome = cc in
      let k : held.Old renewal version t ≡ held.Good token = ap told_by same ∙ told in cc
  not_marked false renewal version t token outcome is told =
      let e : Some (Waits (held.Unfinished renewal version t)) ≡ Some outcome = is in
      let same : Waits (held.Unfinished renewal version t) ≡ outcome = cc in
      let k : held.Unfinished renewal version t ≡ held.Good token = ap told_by same ∙ told in cc

  not_empty : (token : T) (outcome : Outcome T E) → Some (Ends held.LoggedOut) ≡ Some outcome → told_by outcome ≡ held.Good token → ⊥
  not_empty token outcome is told =
      let same : Ends held.LoggedOut ≡ outcome = cc in
      let k : held.LoggedOut ≡ held.Good token = ap told_by same ∙ told in cc

  not_unread : (token : T) (outcome : Outcome T E) → outcome ≡ Waits held.Unread → told_by outcome ≡ held.Good token → ⊥
  not_unread token outcome is told = let k : held.Unread ≡ held.Good token = sym (ap told_by is) ∙ told in cc

module _ {T E : Type 0} (is_good : T → ℤ → ℕ → Bool) (settings : KeeperSettings) where
  content_good : (now : Timestamp) (version : ℕ) (c : Content T) (token : T) (outcome : Outcome T E)
      → content_verdict is_good settings now version c ≡ Some outcome → told_by outcome ≡ held.Good token
      → (c ≡ content.AtRest token) × IsTrue (is_good token now.nanosecond (as_nanos settings.margin))
  content_good now version (content.AtRest t) token outcome is told =
      let k = rests_good (is_good t now.nanosecond (as_nanos settings.margin)) t token outcome is told in
      (ap (λ (x : T). content.AtRest x) k.0, subst (λ (x : T). IsTrue (is_good x now.nanosecond (as_nanos settings.margin))) k.0 k.1)
  content_good now version (content.Marked t renewal) token outcome is told =
      absurd (not_marked (is_good t now.nanosecond (as_nanos settings.old_margin)) renewal version t token outcome is told)
  content_good now version content.Empty token outcome is told = absurd (not_empty token outcome is told)

  hands_out : (r : Round T E) (token : T) (outcome : Outcome T E) → IsRound is_good settings r outcome → told_by outcome ≡ held.Good token
      → HandsOut is_good settings r token
  hands_out Blind token outcome is told = absurd (not_unread token outcome is told)
  hands_out (Seen p now) token outcome is told = content_good now p.version p.content token outcome is told
  hands_out (Renewing p now name calls end) token outcome is told =
      let kept = good_is_kept name end token (sym (ap told_by is.2) ∙ told) in
      let how = subst (λ (x : Renewed T E). IsEnd name first_turn settings.limits.loads (settings.limits.repeats + 2) calls is.1.last x) kept
      is.1.end in
      kept_was_given name calls how.0 token how.2

  pub good_is_good : (left : ℕ) (rounds : List (Round T E)) (token : T) → Holds is_good settings left rounds (held.Good token)
      → (before : List (Round T E)) × (last : Round T E) × (rounds ≡ before ++ last ∷ []) × HandsOut is_good settings last token
  good_is_good left [] token h = absurd (let k : held.Good token ≡ held.Unread = h.1 in cc)
  good_is_good left (r ∷ []) token (some, inl ends) = ([], r, refl, hands_out r token (Ends (held.Good token)) ends refl)
  good_is_good left (r ∷ []) token (some, inr last) = ([], r, refl, hands_out r token (Waits (held.Good token)) last.1 refl)
  good_is_good left (r ∷ next ∷ rounds) token h =
      let k = good_is_good (left - 1) (next ∷ rounds) token h.1 in
      (r ∷ k.0, k.1, ap (λ (l : List (Round T E)). r ∷ l) k.2, k.3)

  -- a round sends at most once, and not at all if the keeper waits
  round_sends_few : (r : Round T E) (outcome : Outcome T E) → IsRound is_good settings r outcome → refreshes_in (calls_of r) ≤ 1
  round_sends_few Blind outcome is = omega arith
  round_sends_few (Seen p now) outcome is = omega arith
  round_sends_few (Renewing p now name calls end) outcome is = sends_few name calls is.1.last (state_after name calls is.1.last is.1.asks)

  pub waits_unsent : (r : Round T E) (seen : Held T E) → IsRound is_good settings r (Waits seen) → refreshes_in (calls_of r) ≡ 0
  waits_unsent Blind seen is = refl
  waits_unsent (Seen p now) seen is = refl
  waits_unsent (Renewing p now name calls end) seen is =
      waiting_unsent name calls is.1.last is.1.asks settings.limits.loads (settings.limits.repeats + 2) end is.1.end seen is.2

  last_sends_few : (r : Round T E) (outcome : Outcome T E) → IsRound is_good settings r outcome → refreshes_in (calls_in (r ∷ [])) ≤ 1
  last_sends_few r outcome is = rw (append-nil (calls_of r)) (round_sends_few r outcome is)

  pub sends_once : (left : ℕ) (rounds : List (Round T E)) (result : Held T E) → Holds is_good settings left rounds result
      → refreshes_in (calls_in rounds) ≤ 1
  sends_once left [] result h = omega arith
  sends_once left (r ∷ []) result (some, inl ends) = last_sends_few r (Ends result) ends
  sends_once left (r ∷ []) result (some, inr last) = last_sends_few r (Waits result) last.1
  sends_once left (r ∷ next ∷ rounds) result h =
      let none = waits_unsent r h.0.0 h.0.1 in
      let rest = sends_once (left - 1) (next ∷ rounds) result h.1 in
      rw (refreshes_in-append (calls_of r) (calls_in (next ∷ rounds)), none) (omega arith)

  -- a call that made a round was allowed one
  pub some_left : (left : ℕ) (r : Round T E) (rounds : List (Round T E)) (result : Held T E) → Holds is_good settings left (r ∷ rounds) result
      → 1 ≤ left
  some_left left r [] result h = h.0
  some_left left r (next ∷ rounds) result h = let k = some_left (left - 1) next rounds result h.1 in omega arith

  pub some_round : (left : ℕ) (rounds : List (Round T E)) (renewal version : ℕ) (token : T)
      → Holds is_good settings left rounds (held.Unfinished renewal version token) → 1 ≤ left
  some_round left [] renewal version token h = absurd (let k : held.Unfinished renewal version token ≡ held.Unread = h.1 in cc)
  some_round left (r ∷ rounds) renewal version token h = some_left left r rounds (held.Unfinished renewal version token) h

  pub few_renewals : (left : ℕ) (rounds : List (Round T E)) (result : Held T E) → Holds is_good settings left rounds result
      → renewals_in rounds ≤ left
  few_renewals left [] result h = omega arith
  few_renewals left (r ∷ []) result h = let k = h.0 in let n = renewals_more r [] in omega arith
  few_renewals left (r ∷ next ∷ rounds) result h =
      let k = some_left left r (next ∷ rounds) result h in
      let n = renewals_more r (next ∷ rounds) in
      let rest = few_renewals (left - 1) (next ∷ rounds) result h.1 in
      omega arith

  pub sleeps_little : (w : ℕ) → as_nanos settings.wait ≡ w → (n left : ℕ) (rounds : List (Round T E)) (result : Held T E) → left ≤ n + 1
      → Holds is_good settings left rounds result
      → slept_in (events_in settings.wait rounds) ≤ n * w
  sleeps_little w is n left [] result few h = omega arith
  sleeps_little w is n left (r ∷ []) result few h = let none = no_sleep r in omega arith
  sleeps_little w is zero left (r ∷ next ∷ rounds) result few h =
      let k = some_left (left - 1) next rounds result h.1 in absurd (omega arith)
  sleeps_little w is (suc n) left (r ∷ next ∷ rounds) result few h =
      let rest = sleeps_little w is n (left - 1) (next ∷ rounds) result (omega arith) h.1 in
      let sum = slept_in-append (events_of r) (Slept settings.wait ∷ events_in settings.wait (next ∷ rounds)) in
      let none = no_sleep r in
      omega arith

  -- what was given in a round is told
  round_tells : (r : Round T E) (outcome : Outcome T E) (token new : T) → IsRound is_good settings r outcome
      → Contains (calls_of r) (Refresh token (Some new)) → token_in (told_by outcome) ≡ Some new
  round_tells Blind outcome token new is has = absurd (none_given (Load None ∷ []) token (Some new) refl has)
  round_tells (Seen p now) outcome token new is has = absurd (none_given (Load (Some p) ∷ []) token (Some new) refl has)
  round_tells (Renewing p now name calls end) outcome token new is has =
      elim (Contains-append_cases (Load (Some p) ∷ []) calls (Refresh token (Some new)) has) [
        | inl here ↦ absurd (let k = the_only (Load (Some p)) (Refresh token (Some new)) here in cc)
        | inr there ↦
            ap (λ (o : Outcome T E). token_in (told_by o)) is.2 ∙ same_new name end
            ∙ handed_over name calls is.1.last is.1.asks token new there settings.limits.loads (settings.limits.repeats + 2) end is.1.end
      ]

  last_tells : (r : Round T E) (outcome : Outcome T E) (token new : T) → IsRound is_good settings r outcome
      → Contains (calls_in (r ∷ [])) (Refresh token (Some new)) → token_in (told_by outcome) ≡ Some new
  last_tells r outcome token new is has =
      round_tells r outcome token new is
      (subst (λ (l : List (Call T)). Contains l (Refresh token (Some new))) (append-nil (calls_of r)) has)

  pub given_is_told : (left : ℕ) (rounds : List (Round T E)) (token new : T) (result : Held T E) → Holds is_good settings left rounds result
      → Contains (calls_in rounds) (Refresh token (Some new)) → token_in result ≡ Some new
  given_is_told left [] token new result h has = absurd (omega (arith, has.1))
  given_is_told left (r ∷ []) token new result (some, inl ends) has = last_tells r (Ends result) token new ends has
  given_is_told left (r ∷ []) token new result (some, inr last) has = last_tells r (Waits result) token new last.1 has
  given_is_told left (r ∷ next ∷ rounds) token new result h has =
      elim (Contains-append_cases (calls_of r) (calls_in (next ∷ rounds)) (Refresh token (Some new)) has) [
        | inl here ↦ absurd (none_given (calls_of r) token (Some new) (waits_unsent r h.0.0 h.0.1) here)
        | inr there ↦ given_is_told (left - 1) (next ∷ rounds) token new result h.1 there
      ]
