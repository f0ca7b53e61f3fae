-- What is empty stays so until somebody logs in.
use Rattle.std.proofs.Common.{◌≡◌, ℕ, List, [], ◌∷◌, ◌++◌, Some, None, refl, ap, sym, ◌∙◌, arith, inl, inr}
use Rattle.std.specs.List.{Contains}
use Rattle.std.proofs.lemmas.List.Elements.{Contains-append_left, Contains-append_right}
use Rattle.oauth2_shared_token.specs.State.{Token, Content, AtRest, InUse, Empty, token_in, user_of, Stored, Shared, begin}
use Rattle.oauth2_shared_token.specs.Event.{SharedEvent, Asked, Marked, Sent, Given, Kept, Withdrew, GivenBack, SignedIn, Allowed, LoggedIn, LoggedOut, CanHappen, after}
use Rattle.oauth2_shared_token.specs.Run.{IsRun, at_last}
use Rattle.oauth2_shared_token.specs.Laws.{EachLogoutHolds}
use Rattle.oauth2_shared_token.proofs.Lists.{at_last-append, run-split}
use Rattle.oauth2_shared_token.proofs.Versions.{IsSound, sound_after, sound_begin, sound_at_last, asked_is_stored, returned_is_stored}
use Rattle.oauth2_shared_token.proofs.Standing.{marks, IsTold, seen_is_stored, told_after, told_begin, told_at_last}

nobody_uses_none : (c : Content) → token_in c ≡ None → user_of c ≡ None
nobody_uses_none (AtRest token) e = absurd cc
nobody_uses_none (InUse token i) e = absurd cc
nobody_uses_none Empty e = refl

some_is_not_none : {P : Type 0} (p q : Stored) (t : Token) → token_in p.content ≡ Some t → p ≡ q → token_in q.content ≡ None → P
some_is_not_none p q t some is none =
    absurd (let e : Some t ≡ None = sym some ∙ ap (λ (r : Stored). token_in r.content) is ∙ none in cc)

empty_after : (s : Shared) (sofar : List SharedEvent) (event : SharedEvent) → IsTold s sofar → IsSound s → token_in s.store.content ≡ None → CanHappen s event → ((v : ℕ) (new : Token) → event ≡ LoggedIn v new → ⊥) → token_in (after s event).store.content ≡ None
empty_after s sofar (Asked i v t) told sound none can out = none
empty_after s sofar (Marked i v t) told sound none can out = some_is_not_none _ s.store t refl (asked_is_stored s i v t sound can) none
empty_after s sofar (Sent i v t) told sound none can out = none
empty_after s sofar (Given i v n) told sound none can out = none
empty_after s sofar (Kept i v n) told sound none can out =
    elim (told.marking i v (ap marks can.0)) [
      | inl standing ↦ absurd (let e = standing.by in let f = nobody_uses_none s.store.content none in cc)
      | inr over ↦ absurd (omega (arith, over.beyond, can.1))
    ]
empty_after s sofar (Withdrew i v t) told sound none can out = none
empty_after s sofar (GivenBack i v t) told sound none can out = some_is_not_none _ s.store t refl (returned_is_stored s i v t sound can) none
empty_after s sofar (SignedIn i v n) told sound none can out = some_is_not_none _ s.store can.0.0 refl (seen_is_stored s i v can.0.0 sound can.0.1 can.1) none
empty_after s sofar (Allowed i v t) told sound none can out = some_is_not_none _ s.store t refl (seen_is_stored s i v t sound can.0 can.1) none
empty_after s sofar (LoggedIn v n) told sound none can out = absurd (out v n refl)
empty_after s sofar (LoggedOut v) told sound none can out = refl

empty_from : (s : Shared) (sofar events : List SharedEvent) → IsTold s sofar → IsSound s → token_in s.store.content ≡ None → IsRun s events → ((v : ℕ) (new : Token) → Contains events (LoggedIn v new) → ⊥) → token_in (at_last s events).store.content ≡ None
empty_from s sofar [] told sound none run out = none
empty_from s sofar (event ∷ events) told sound none run out =
    let here : (v : ℕ) (new : Token) → event ≡ LoggedIn v new → ⊥ = λ v new e. out v new (Contains-append_left (event ∷ []) events (LoggedIn v new) (0, omega arith, e)) in
    empty_from (after s event) (sofar ++ event ∷ []) events (told_after s sofar told event sound run.0) (sound_after s event sound run.0) (empty_after s sofar event told sound none run.0 here) run.1 (λ v new h. out v new (Contains-append_right (event ∷ []) events (LoggedIn v new) h))

pub each_logout_holds : EachLogoutHolds
each_logout_holds start before events version run out =
    let split = run-split (begin start) before (LoggedOut version ∷ events) run in
    let told = told_at_last (begin start) [] before (told_begin start) (sound_begin start) split.0 in
    let sound = sound_at_last (begin start) before (sound_begin start) split.0 in
    ap (λ (t : Shared). token_in t.store.content) (at_last-append (begin start) before (LoggedOut version ∷ events)) ∙
    empty_from (after (at_last (begin start) before) (LoggedOut version)) (before ++ LoggedOut version ∷ []) events (told_after (at_last (begin start) before) before told (LoggedOut version) sound split.1.0) (sound_after (at_last (begin start) before) (LoggedOut version) sound split.1.0) refl split.1.1 out
