-- Where no token comes late, the last that was given is stored or held by the one renewal that marked.
use Rattle.std.proofs.Common.{◌≡◌, ◌≢◌, ℕ, ◌+◌, List, [], ◌∷◌, ◌++◌, get_or, Option, Some, None, refl, ap, sym, subst, ◌∙◌, append_assoc, arith, ◌⊎◌, inl, inr}
use Rattle.std.specs.List.{Contains}
use Rattle.std.proofs.lemmas.List.Elements.{Contains-append_left, Contains-push}
use Rattle.oauth2_shared_token.specs.State.{Token, token_in, user_of, Stored, Stage, NotBegun, Asking, Marking, Sending, Holding, Returning, Done, put, Shared, stage_of, begin}
use Rattle.oauth2_shared_token.specs.Event.{SharedEvent, Asked, Marked, Sent, Given, Kept, Withdrew, GivenBack, SignedIn, Allowed, LoggedIn, LoggedOut, CanHappen, after}
use Rattle.oauth2_shared_token.specs.Run.{IsRun, at_last, newest_given}
use Rattle.oauth2_shared_token.specs.Laws.{WasAnswered, NoneCameLate, TheNewestGivenIsStored}
use Rattle.oauth2_shared_token.proofs.Places.{put-same, read-put, stays-put}
use Rattle.oauth2_shared_token.proofs.Versions.{IsSound, sound_after, sound_begin, asked_is_stored, returned_is_stored, free_is_unused}
use Rattle.oauth2_shared_token.proofs.Standing.{marks, IsStanding, IsTold, seen_is_stored, told_after, told_begin}

pub record Holder (s : Shared) (latest : Option Token) : Type 0 where
  pub renewal : ℕ
  pub version : ℕ
  pub token : Token
  pub is : Some token ≡ latest
  pub holds : stage_of s renewal ≡ Holding version token

pub record IsLatest (s : Shared) (sofar : List SharedEvent) (latest : Option Token) : Type 0 where
  pub was_given : (j w : ℕ) (n : Token) → stage_of s j ≡ Holding w n → Contains sofar (Given j w n)
  pub only : (j w : ℕ) (n : Token) → stage_of s j ≡ Holding w n → Some n ≡ latest
  pub somewhere : (latest ≡ token_in s.store.content) ⊎ Holder s latest

-- the last that was given, after one more event
abbrev next_latest : Option Token → SharedEvent → Option Token
next_latest latest (Asked i version t) = latest
next_latest latest (Marked i version t) = latest
next_latest latest (Sent i version t) = latest
next_latest latest (Given i version new) = Some new
next_latest latest (Kept i version new) = latest
next_latest latest (Withdrew i version t) = latest
next_latest latest (GivenBack i version t) = latest
next_latest latest (SignedIn i version new) = Some new
next_latest latest (Allowed i version t) = Some t
next_latest latest (LoggedIn version new) = Some new
next_latest latest (LoggedOut version) = None

newest_step : (latest : Option Token) (event : SharedEvent) (events : List SharedEvent) → newest_given latest (event ∷ events) ≡ newest_given (next_latest latest event) events
newest_step latest (Asked i version t) events = refl
newest_step latest (Marked i version t) events = refl
newest_step latest (Sent i version t) events = refl
newest_step latest (Given i version new) events = refl
newest_step latest (Kept i version new) events = refl
newest_step latest (Withdrew i version t) events = refl
newest_step latest (GivenBack i version t) events = refl
newest_step latest (SignedIn i version new) events = refl
newest_step latest (Allowed i version t) events = refl
newest_step latest (LoggedIn version new) events = refl
newest_step latest (LoggedOut version) events = refl

none_held : (j w : ℕ) (n : Token) → get_or {A = Stage} [] j NotBegun ≡ Holding w n → ⊥
none_held j w n h = let e : NotBegun ≡ Holding w n = h in cc

answered_there : (sofar all : List SharedEvent) (i v : ℕ) → ((e : SharedEvent) → Contains sofar e → Contains all e) → WasAnswered sofar i v → WasAnswered all i v
answered_there sofar all i v among (inl (t, inl h)) = inl (t, inl (among _ h))
answered_there sofar all i v among (inl (t, inr h)) = inl (t, inr (among _ h))
answered_there sofar all i v among (inr h) = inr (among _ h)

module _ (all : List SharedEvent) (in_time : NoneCameLate all) where
  module _ (s : Shared) (sofar : List SharedEvent) (latest : Option Token) (told : IsTold s sofar) (sound : IsSound s) (l : IsLatest s sofar latest) where
    -- whoever holds a token has its mark standing
    stands : (j w : ℕ) (n : Token) → ((e : SharedEvent) → Contains sofar e → Contains all e) → stage_of s j ≡ Holding w n → IsStanding s.store j w
    stands j w n among is =
        elim (told.marking j w (ap marks is)) [
          | inl standing ↦ standing
          | inr over ↦ absurd (in_time j w n (among _ (l.was_given j w n is)) (answered_there sofar all j w among over.answered))
        ]

    -- nothing but a stage changed, of a renewal that held none and holds none
    further : (event : SharedEvent) (i : ℕ) (x y : Stage) → stage_of s i ≡ y → ((w : ℕ) (n : Token) → Holding w n ≢ y) → ((w : ℕ) (n : Token) → Holding w n ≢ x) → (t : Shared) → t.renewals ≡ put NotBegun s.renewals i x → token_in s.store.content ≡ token_in t.store.content → IsLatest t (sofar ++ event ∷ []) latest
    further event i x y was not_before not_after t is same =
        let back : (j w : ℕ) (n : Token) → stage_of t j ≡ Holding w n → stage_of s j ≡ Holding w n =
        λ j w n h. elim (read-put NotBegun s.renewals i j x (Holding w n) (sym (ap (λ (xs : List Stage). get_or xs j NotBegun) is) ∙ h)) [
          | inl here ↦ absurd (not_after w n here.1)
          | inr there ↦ there.1
        ] in
        record {
          was_given = λ j w n h. Contains-append_left sofar (event ∷ []) _ (l.was_given j w n (back j w n h));
          only = λ j w n h. l.only j w n (back j w n h);
          somewhere = elim l.somewhere [
            | inl stored ↦ inl (stored ∙ same)
            | inr holder ↦ inr (record {
              renewal = holder.renewal;
              version = holder.version;
              token = holder.token;
              is = holder.is;
              holds = ap (λ (xs : List Stage). get_or xs holder.renewal NotBegun) is ∙ stays-put s.renewals i holder.renewal x y (Holding holder.version holder.token) was (not_before holder.version holder.token) holder.holds;
            })
          ];
        }

    latest_after : (event : SharedEvent) → ((e : SharedEvent) → Contains (sofar ++ event ∷ []) e → Contains all e) → CanHappen s event → IsLatest (after s event) (sofar ++ event ∷ []) (next_latest latest event)
    latest_after (Asked i version token) among can =
        further (Asked i version token) i (Asking version token) NotBegun can.0 (λ w n e. cc) (λ w n e. cc) (after s (Asked i version token)) refl refl
    latest_after (Marked i version token) among can =
        further (Marked i version token) i (Marking version token) (Asking version token) can.0 (λ w n e. cc) (λ w n e. cc) (after s (Marked i version token)) refl (sym (ap (λ (p : Stored). token_in p.content) (asked_is_stored s i version token sound can)))
    latest_after (Sent i version token) among can =
        further (Sent i version token) i (Sending version) (Marking version token) can (λ w n e. cc) (λ w n e. cc) (after s (Sent i version token)) refl refl
    latest_after (Given i version new) among can =
        let mine : IsStanding s.store i version =
        elim (told.marking i version (ap marks can)) [
          | inl standing ↦ standing
          | inr over ↦ absurd (in_time i version new (among _ (Contains-push sofar (Given i version new))) (answered_there sofar all i version (λ e c. among e (Contains-append_left sofar _ e c)) over.answered))
        ] in
        record {
          was_given = λ j w n h. elim (read-put NotBegun s.renewals i j (Holding version new) (Holding w n) h) [
            | inl here ↦ (let place = here.0 in let what = here.1 in let same : Given i version new ≡ Given j w n = cc in subst (Contains (sofar ++ Given i version new ∷ [])) same (Contains-push sofar (Given i version new)))
            | inr there ↦ Contains-append_left sofar _ _ (l.was_given j w n there.1)
          ];
          only = λ j w n h. elim (read-put NotBegun s.renewals i j (Holding version new) (Holding w n) h) [
            | inl here ↦ (let what = here.1 in let same : n ≡ new = cc in ap (λ (t : Token). Some t) same)
            | inr there ↦ absurd (there.0 (
                let standing = stands j w n (λ e c. among e (Contains-append_left sofar _ e c)) there.1 in
                let e = standing.by in
                let f = mine.by in
                cc))
          ];
          somewhere = inr (record { renewal = i; version = version; token = new; is = refl; holds = put-same NotBegun s.renewals i (Holding version new) });
        }
    latest_after (Kept i version new) among can =
        let back : (j w : ℕ) (n : Token) → get_or (put NotBegun s.renewals i Done) j NotBegun ≡ Holding w n → stage_of s j ≡ Holding w n =
        λ j w n h. elim (read-put NotBegun s.renewals i j Done (Holding w n) h) [
          | inl here ↦ absurd (let e = here.1 in cc)
          | inr there ↦ there.1
        ] in
        record {
          was_given = λ j w n h. Contains-append_left sofar _ _ (l.was_given j w n (back j w n h));
          only = λ j w n h. l.only j w n (back j w n h);
          somewhere = inl (sym (l.only i version new can.0));
        }
    latest_after (Withdrew i version token) among can =
        further (Withdrew i version token) i (Returning version token) (Marking version token) can (λ w n e. cc) (λ w n e. cc) (after s (Withdrew i version token)) refl refl
    latest_after (GivenBack i version token) among can =
        further (GivenBack i version token) i Done (Returning version token) can.0 (λ w n e. cc) (λ w n e. cc) (after s (GivenBack i version token)) refl (sym (ap (λ (p : Stored). token_in p.content) (returned_is_stored s i version token sound can)))
    latest_after (SignedIn i version new) among can =
        let mine : Some i ≡ user_of s.store.content = ap (λ (p : Stored). user_of p.content) (seen_is_stored s i version can.0.0 sound can.0.1 can.1) in
        let nobody : (j w : ℕ) (n : Token) → stage_of s j ≡ Holding w n → ⊥ =
        λ j w n h.
        let standing = stands j w n (λ e c. among e (Contains-append_left sofar _ e c)) h in
        let e = standing.next in
        let f = standing.by in
        let at : version ≡ w + 1 = omega (arith, e, can.1) in
        let place : i ≡ j = cc in
        let same : SignedIn i version new ≡ SignedIn j (w + 1) new = cc in
        in_time j w n (among _ (Contains-append_left sofar _ _ (l.was_given j w n h))) (inl (new, inl (subst (Contains all) same (among _ (Contains-push sofar (SignedIn i version new)))))) in
        record {
          was_given = λ j w n h. absurd (nobody j w n h);
          only = λ j w n h. absurd (nobody j w n h);
          somewhere = inl refl;
        }
    latest_after (Allowed i version token) among can =
        let mine : Some i ≡ user_of s.store.content = ap (λ (p : Stored). user_of p.content) (seen_is_stored s i version token sound can.0 can.1) in
        let nobody : (j w : ℕ) (n : Token) → stage_of s j ≡ Holding w n → ⊥ =
        λ j w n h.
        let standing = stands j w n (λ e c. among e (Contains-append_left sofar _ e c)) h in
        let e = standing.next in
        let f = standing.by in
        let at : version ≡ w + 1 = omega (arith, e, can.1) in
        let place : i ≡ j = cc in
        let same : Allowed i version token ≡ Allowed j (w + 1) token = cc in
        in_time j w n (among _ (Contains-append_left sofar _ _ (l.was_given j w n h))) (inl (token, inr (subst (Contains all) same (among _ (Contains-push sofar (Allowed i version token)))))) in
        record {
          was_given = λ j w n h. absurd (nobody j w n h);
          only = λ j w n h. absurd (nobody j w n h);
          somewhere = inl refl;
        }
    latest_after (LoggedIn version new) among can =
        let rested : None ≡ user_of s.store.content = free_is_unused s version sound can.0 can.1 in
        let nobody : (j w : ℕ) (n : Token) → stage_of s j ≡ Holding w n → ⊥ =
        λ j w n h.
        let standing = stands j w n (λ e c. among e (Contains-append_left sofar _ e c)) h in
        let e = standing.by in
        cc in
        record {
          was_given = λ j w n h. absurd (nobody j w n h);
          only = λ j w n h. absurd (nobody j w n h);
          somewhere = inl refl;
        }
    latest_after (LoggedOut version) among can =
        let nobody : (j w : ℕ) (n : Token) → stage_of s j ≡ Holding w n → ⊥ =
        λ j w n h.
        let standing = stands j w n (λ e c. among e (Contains-append_left sofar _ e c)) h in
        let e = standing.next in
        let at : version ≡ w + 1 = omega (arith, e, can.1) in
        in_time j w n (among _ (Contains-append_left sofar _ _ (l.was_given j w n h))) (inr (subst (λ (v : ℕ). Contains all (LoggedOut v)) at (among _ (Contains-push sofar (LoggedOut version))))) in
        record {
          was_given = λ j w n h. absurd (nobody j w n h);
          only = λ j w n h. absurd (nobody j w n h);
          somewhere = inl refl;
        }

  latest_from : (s : Shared) (sofar events : List SharedEvent) (latest : Option Token) → ((e : SharedEvent) → Contains (sofar ++ events) e → Contains all e) → IsTold s sofar → IsSound s → IsLatest s sofar latest → IsRun s events → user_of (at_last s events).store.content ≡ None → token_in (at_last s events).store.content ≡ newest_given latest events
  latest_from s sofar [] latest among told sound l run rests =
      elim l.somewhere [
        | inl stored ↦ sym stored
        | inr holder ↦ absurd (
            let standing = stands s sofar latest told sound l holder.renewal holder.version holder.token (λ e h. among e (Contains-append_left sofar [] e h)) holder.holds in
            let e = standing.by in
            cc)
      ]
  latest_from s sofar (event ∷ events) latest among told sound l run rests =
      let split : (sofar ++ event ∷ []) ++ events ≡ sofar ++ event ∷ events = append_assoc sofar (event ∷ []) events in
      let among_next : (e : SharedEvent) → Contains ((sofar ++ event ∷ []) ++ events) e → Contains all e =
      λ e c. among e (subst (λ (xs : List SharedEvent). Contains xs e) split c) in
      let among_here : (e : SharedEvent) → Contains (sofar ++ event ∷ []) e → Contains all e =
      λ e c. among_next e (Contains-append_left (sofar ++ event ∷ []) events e c) in
      latest_from (after s event) (sofar ++ event ∷ []) events (next_latest latest event) among_next (told_after s sofar told event sound run.0) (sound_after s event sound run.0) (latest_after s sofar latest told sound l event among_here run.0) run.1 rests ∙
      sym (newest_step latest event events)

pub latest_begin : (start : Token) → IsLatest (begin start) [] (Some start)
latest_begin start =
    record {
      was_given = λ j w n h. absurd (none_held j w n h);
      only = λ j w n h. absurd (none_held j w n h);
      somewhere = inl refl;
    }

pub the_newest_given_is_stored : TheNewestGivenIsStored
the_newest_given_is_stored start events run in_time rests =
    latest_from events in_time (begin start) [] events (Some start) (λ e c. c) (told_begin start) (sound_begin start) (latest_begin start) run rests
