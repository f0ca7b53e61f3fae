-- A renewal that marked a version has its mark there until it keeps a token or a caller answers
-- `Unfinished`.
use Rattle.std.proofs.Common.{◌≡◌, ◌≢◌, ℕ, ◌+◌, ◌<◌, ◌≤◌, List, [], ◌∷◌, ◌++◌, get_or, Option, Some, None, refl, ap, sym, subst, ◌∙◌, append_assoc, arith, ◌⊎◌, inl, inr}
use Rattle.std.proofs.Math.Decide.{dec_le}
use Rattle.std.proofs.lemmas.List.{append-nil}
use Rattle.std.specs.List.{Contains}
use Rattle.std.proofs.lemmas.List.Elements.{Contains-append_left, Contains-push}
use Rattle.oauth2_shared_token.specs.State.{Token, Content, AtRest, InUse, Empty, token_in, user_of, Stored, empty, at_rest, in_use, Stage, NotBegun, Asking, Marking, Sending, Holding, Returning, Done, put, Shared, stage_of, begin}
use Rattle.oauth2_shared_token.specs.Event.{SharedEvent, Asked, Marked, Sent, Given, Kept, Withdrew, GivenBack, SignedIn, Allowed, LoggedIn, LoggedOut, CanHappen, after}
use Rattle.oauth2_shared_token.specs.Run.{IsRun, at_last}
use Rattle.oauth2_shared_token.specs.Laws.{WasAnswered, Stands, NoneIsLostUntold, OneRunsAtOnce}
use Rattle.oauth2_shared_token.proofs.Places.{put-same, put-other, read-put, stays-put, none_in_nothing, in_one_more}
use Rattle.oauth2_shared_token.proofs.Versions.{IsSound, sound_after, sound_begin, asked_is_stored, free_is_unused}
use Rattle.oauth2_shared_token.proofs.Newest.{what_is_stored_is_the_newest}

-- the version that a renewal marked and hasn't replaced
abbrev pub marks : Stage → Option ℕ
marks NotBegun = None
marks (Asking version token) = None
marks (Marking version token) = Some version
marks (Sending version) = Some version
marks (Holding version new) = Some version
marks (Returning version token) = Some version
marks Done = None

pub record IsStanding (p : Stored) (i version : ℕ) : Type 0 where
  pub next : p.version ≡ version + 1
  pub by : user_of p.content ≡ Some i

pub record IsOver (p : Stored) (sofar : List SharedEvent) (i version : ℕ) : Type 0 where
  pub beyond : version + 1 < p.version
  pub answered : WasAnswered sofar i version

pub record IsTold (s : Shared) (sofar : List SharedEvent) : Type 0 where
  pub marking : (i version : ℕ) → marks (stage_of s i) ≡ Some version → IsStanding s.store i version ⊎ IsOver s.store sofar i version
  pub given : (i version : ℕ) (new : Token) → Contains sofar (Given i version new) → Contains sofar (Kept i version new) ⊎ (stage_of s i ≡ Holding version new)

pub marks-put : (xs : List Stage) (i j w : ℕ) (x : Stage) → marks (get_or (put NotBegun xs i x) j NotBegun) ≡ Some w → ((j ≡ i) × (marks x ≡ Some w)) ⊎ ((j ≢ i) × (marks (get_or xs j NotBegun) ≡ Some w))
marks-put xs i j w x h =
    elim (read-put NotBegun xs i j x (get_or (put NotBegun xs i x) j NotBegun) refl) [
      | inl here ↦ inl (here.0, sym (ap marks here.1) ∙ h)
      | inr there ↦ inr (there.0, ap marks there.1 ∙ h)
    ]

answered_more : (sofar : List SharedEvent) (event : SharedEvent) (i version : ℕ) → WasAnswered sofar i version → WasAnswered (sofar ++ event ∷ []) i version
answered_more sofar event i version (inl (token, inl h)) = inl (token, inl (Contains-append_left sofar (event ∷ []) _ h))
answered_more sofar event i version (inl (token, inr h)) = inl (token, inr (Contains-append_left sofar (event ∷ []) _ h))
answered_more sofar event i version (inr h) = inr (Contains-append_left sofar (event ∷ []) _ h)

over_more : (p q : Stored) (sofar : List SharedEvent) (event : SharedEvent) (i version : ℕ) → p.version ≤ q.version → IsOver p sofar i version → IsOver q (sofar ++ event ∷ []) i version
over_more p q sofar event i version le over = record { beyond = omega arith; answered = answered_more sofar event i version over.answered }

-- who read what is stored now read it as it is
pub seen_is_stored : (s : Shared) (i version : ℕ) (token : Token) → IsSound s → Contains s.past (in_use version token i) → s.store.version ≡ version → in_use version token i ≡ s.store
seen_is_stored s i version token sound seen fits =
    elim (sound.reads (in_use version token i) seen) [
      | inl less ↦ absurd (omega (arith, less, fits))
      | inr same ↦ same
    ]

-- where the store is as it was
same_store : (p : Stored) (sofar : List SharedEvent) (event : SharedEvent) (i version : ℕ) → IsStanding p i version ⊎ IsOver p sofar i version → IsStanding p i version ⊎ IsOver p (sofar ++ event ∷ []) i version
same_store p sofar event i version (inl standing) = inl standing
same_store p sofar event i version (inr over) = inr (over_more p p sofar event i version (omega arith) over)

module _ (s : Shared) (sofar : List SharedEvent) (told : IsTold s sofar) where
  given_more : (t : Shared) (event : SharedEvent) → ((j w : ℕ) (n : Token) → stage_of s j ≡ Holding w n → (stage_of t j ≡ Holding w n) ⊎ (event ≡ Kept j w n)) → ((j w : ℕ) (n : Token) → event ≡ Given j w n → stage_of t j ≡ Holding w n) → (j w : ℕ) (n : Token) → Contains (sofar ++ event ∷ []) (Given j w n) → Contains (sofar ++ event ∷ []) (Kept j w n) ⊎ (stage_of t j ≡ Holding w n)
  given_more t event stays new j w n h =
      elim (in_one_more sofar event (Given j w n) h) [
        | inl before ↦ elim (told.given j w n before) [
          | inl kept ↦ inl (Contains-append_left sofar (event ∷ []) _ kept)
          | inr holds ↦ elim (stays j w n holds) [
            | inl still ↦ inr still
            | inr now ↦ inl (subst (Contains (sofar ++ event ∷ [])) now (Contains-push sofar event))
          ]
        ]
        | inr here ↦ inr (new j w n (sym here))
      ]

  pub told_after : (event : SharedEvent) → IsSound s → CanHappen s event → IsTold (after s event) (sofar ++ event ∷ [])
  told_after (Asked i version token) sound can =
      record {
        marking = λ j w h.
            elim (marks-put s.renewals i j w (Asking version token) h) [
              | inl here ↦ absurd (let e = here.1 in cc)
              | inr there ↦ same_store s.store sofar _ j w (told.marking j w there.1)
            ];
        given = given_more (after s (Asked i version token)) (Asked i version token) (λ j w n is. inl (stays-put s.renewals i j _ NotBegun (Holding w n) can.0 (λ e. cc) is)) (λ j w n e. absurd cc);
      }
  told_after (Marked i version token) sound can =
      let rested : None ≡ user_of s.store.content = ap (λ (p : Stored). user_of p.content) (asked_is_stored s i version token sound can) in
      record {
        marking = λ j w h.
            elim (marks-put s.renewals i j w (Marking version token) h) [
              | inl here ↦ (let e : version ≡ w = cc in let f : Some i ≡ Some j = ap (λ (k : ℕ). Some k) (sym here.0) in inl (record { next = omega (arith, e); by = f }))
              | inr there ↦ elim (told.marking j w there.1) [
                | inl standing ↦ absurd (let e = standing.by in cc)
                | inr over ↦ inr (over_more s.store (in_use (version + 1) token i) sofar _ j w (omega (arith, can.1)) over)
              ]
            ];
        given = given_more (after s (Marked i version token)) (Marked i version token) (λ j w n is. inl (stays-put s.renewals i j _ (Asking version token) (Holding w n) can.0 (λ e. cc) is)) (λ j w n e. absurd cc);
      }
  told_after (Sent i version token) sound can =
      record {
        marking = λ j w h.
            elim (marks-put s.renewals i j w (Sending version) h) [
              | inl here ↦ same_store s.store sofar _ j w (told.marking j w (ap (λ (k : ℕ). marks (stage_of s k)) here.0 ∙ ap marks can ∙ here.1))
              | inr there ↦ same_store s.store sofar _ j w (told.marking j w there.1)
            ];
        given = given_more (after s (Sent i version token)) (Sent i version token) (λ j w n is. inl (stays-put s.renewals i j _ (Marking version token) (Holding w n) can (λ e. cc) is)) (λ j w n e. absurd cc);
      }
  told_after (Given i version new) sound can =
      record {
        marking = λ j w h.
            elim (marks-put s.renewals i j w (Holding version new) h) [
              | inl here ↦ same_store s.store sofar _ j w (told.marking j w (ap (λ (k : ℕ). marks (stage_of s k)) here.0 ∙ ap marks can ∙ here.1))
              | inr there ↦ same_store s.store sofar _ j w (told.marking j w there.1)
            ];
        given = given_more (after s (Given i version new)) (Given i version new) (λ j w n is. inl (stays-put s.renewals i j _ (Sending version) (Holding w n) can (λ e. cc) is)) (λ j w n e.
            let same : Holding version new ≡ Holding w n = cc in
            let place : j ≡ i = cc in
            rw place (put-same NotBegun s.renewals i (Holding version new) ∙ same));
      }
  told_after (Kept i version new) sound can =
      record {
        marking = λ j w h.
            elim (marks-put s.renewals i j w Done h) [
              | inl here ↦ absurd (let e = here.1 in cc)
              | inr there ↦ elim (told.marking j w there.1) [
                | inl standing ↦ elim (told.marking i version (ap marks can.0)) [
                  | inl mine ↦ absurd (there.0 (let e = standing.by in let f = mine.by in cc))
                  | inr over ↦ absurd (omega (arith, over.beyond, can.1))
                ]
                | inr over ↦ inr (over_more s.store (at_rest (version + 2) new) sofar _ j w (omega (arith, can.1)) over)
              ]
            ];
        given = given_more (after s (Kept i version new)) (Kept i version new) (λ j w n is.
            elim (dec_le j i) [
              | yes le ↦ elim (dec_le i j) [
                | yes ge ↦ (let place : i ≡ j = omega (arith, le, ge) in let same : Holding version new ≡ Holding w n = sym can.0 ∙ ap (λ (k : ℕ). stage_of s k) place ∙ is in inr cc)
                | no less ↦ (let ne : j ≢ i = omega arith in inl (put-other NotBegun s.renewals i j Done ne ∙ is))
              ]
              | no more ↦ (let ne : j ≢ i = omega arith in inl (put-other NotBegun s.renewals i j Done ne ∙ is))
            ]) (λ j w n e. absurd cc);
      }
  told_after (Withdrew i version token) sound can =
      record {
        marking = λ j w h.
            elim (marks-put s.renewals i j w (Returning version token) h) [
              | inl here ↦ same_store s.store sofar _ j w (told.marking j w (ap (λ (k : ℕ). marks (stage_of s k)) here.0 ∙ ap marks can ∙ here.1))
              | inr there ↦ same_store s.store sofar _ j w (told.marking j w there.1)
            ];
        given = given_more (after s (Withdrew i version token)) (Withdrew i version token) (λ j w n is. inl (stays-put s.renewals i j _ (Marking version token) (Holding w n) can (λ e. cc) is)) (λ j w n e. absurd cc);
      }
  told_after (GivenBack i version token) sound can =
      record {
        marking = λ j w h.
            elim (marks-put s.renewals i j w Done h) [
              | inl here ↦ absurd (let e = here.1 in cc)
              | inr there ↦ elim (told.marking j w there.1) [
                | inl standing ↦ elim (told.marking i version (ap marks can.0)) [
                  | inl mine ↦ absurd (there.0 (let e = standing.by in let f = mine.by in cc))
                  | inr over ↦ absurd (omega (arith, over.beyond, can.1))
                ]
                | inr over ↦ inr (over_more s.store (at_rest (version + 2) token) sofar _ j w (omega (arith, can.1)) over)
              ]
            ];
        given = given_more (after s (GivenBack i version token)) (GivenBack i version token) (λ j w n is. inl (stays-put s.renewals i j _ (Returning version token) (Holding w n) can.0 (λ e. cc) is)) (λ j w n e. absurd cc);
      }
  told_after (SignedIn i version new) sound can =
      let mine : Some i ≡ user_of s.store.content = ap (λ (p : Stored). user_of p.content) (seen_is_stored s i version can.0.0 sound can.0.1 can.1) in
      record {
        marking = λ j w h.
            elim (told.marking j w h) [
              | inl standing ↦ inr (record {
                beyond = (let e = standing.next in omega (arith, e, can.1));
                answered = (let e = standing.next in let f = standing.by in let at : version ≡ w + 1 = omega (arith, e, can.1) in let place : i ≡ j = cc in let same : SignedIn i version new ≡ SignedIn j (w + 1) new = cc in inl (new, inl (subst (Contains (sofar ++ SignedIn i version new ∷ [])) same (Contains-push sofar (SignedIn i version new)))));
              })
              | inr over ↦ inr (over_more s.store (at_rest (version + 1) new) sofar _ j w (omega (arith, can.1)) over)
            ];
        given = given_more (after s (SignedIn i version new)) (SignedIn i version new) (λ j w n is. inl is) (λ j w n e. absurd cc);
      }
  told_after (Allowed i version token) sound can =
      let mine : Some i ≡ user_of s.store.content = ap (λ (p : Stored). user_of p.content) (seen_is_stored s i version token sound can.0 can.1) in
      record {
        marking = λ j w h.
            elim (told.marking j w h) [
              | inl standing ↦ inr (record {
                beyond = (let e = standing.next in omega (arith, e, can.1));
                answered = (let e = standing.next in let f = standing.by in let at : version ≡ w + 1 = omega (arith, e, can.1) in let place : i ≡ j = cc in let same : Allowed i version token ≡ Allowed j (w + 1) token = cc in inl (token, inr (subst (Contains (sofar ++ Allowed i version token ∷ [])) same (Contains-push sofar (Allowed i version token)))));
              })
              | inr over ↦ inr (over_more s.store (at_rest (version + 1) token) sofar _ j w (omega (arith, can.1)) over)
            ];
        given = given_more (after s (Allowed i version token)) (Allowed i version token) (λ j w n is. inl is) (λ j w n e. absurd cc);
      }
  told_after (LoggedIn version new) sound can =
      let rested : None ≡ user_of s.store.content = free_is_unused s version sound can.0 can.1 in
      record {
        marking = λ j w h.
            elim (told.marking j w h) [
              | inl standing ↦ absurd (let e = standing.by in cc)
              | inr over ↦ inr (over_more s.store (at_rest (version + 1) new) sofar _ j w (omega (arith, can.1)) over)
            ];
        given = given_more (after s (LoggedIn version new)) (LoggedIn version new) (λ j w n is. inl is) (λ j w n e. absurd cc);
      }
  told_after (LoggedOut version) sound can =
      record {
        marking = λ j w h.
            elim (told.marking j w h) [
              | inl standing ↦ inr (record {
                beyond = (let e = standing.next in omega (arith, e, can.1));
                answered = (let e = standing.next in let at : version ≡ w + 1 = omega (arith, e, can.1) in inr (subst (λ (v : ℕ). Contains (sofar ++ LoggedOut version ∷ []) (LoggedOut v)) at (Contains-push sofar (LoggedOut version))));
              })
              | inr over ↦ inr (over_more s.store (empty (version + 1)) sofar _ j w (omega (arith, can.1)) over)
            ];
        given = given_more (after s (LoggedOut version)) (LoggedOut version) (λ j w n is. inl is) (λ j w n e. absurd cc);
      }

pub told_at_last : (s : Shared) (sofar events : List SharedEvent) → IsTold s sofar → IsSound s → IsRun s events → IsTold (at_last s events) (sofar ++ events)
told_at_last s sofar [] told sound run = subst (IsTold s) (sym (append-nil sofar)) told
told_at_last s sofar (event ∷ events) told sound run =
    subst (IsTold (at_last (after s event) events)) (append_assoc sofar (event ∷ []) events) (told_at_last (after s event) (sofar ++ event ∷ []) events (told_after s sofar told event sound run.0) (sound_after s event sound run.0) run.1)

pub told_begin : (start : Token) → IsTold (begin start) []
told_begin start =
    record { marking = λ i version h. absurd (let e : None ≡ Some version = h in cc); given = λ i version new h. absurd (none_in_nothing _ h) }

used_is : (content : Content) (i : ℕ) → user_of content ≡ Some i → (token : Token) × (content ≡ InUse token i)
used_is (AtRest token) i e = absurd cc
used_is (InUse token j) i e = (token, (let place : j ≡ i = cc in rw place refl))
used_is Empty i e = absurd cc

standing_is : (p : Stored) (i version : ℕ) → IsStanding p i version → (token : Token) × (p ≡ in_use (version + 1) token i)
standing_is p i version standing =
    let used = used_is p.content i standing.by in
    (used.0, (let e = standing.next in let f = used.1 in rw (← e, ← f) refl))

stands : (start : Token) (events : List SharedEvent) (i version : ℕ) → IsRun (begin start) events → IsStanding (at_last (begin start) events).store i version → Stands start events i version
stands start events i version run standing =
    let is = standing_is (at_last (begin start) events).store i version standing in
    (is.0, sym (what_is_stored_is_the_newest start events run) ∙ ap (λ (p : Stored). token_in p.content) is.1, is.1)

pub none_is_lost_untold : NoneIsLostUntold
none_is_lost_untold start events i version new run given =
    let told = told_at_last (begin start) [] events (told_begin start) (sound_begin start) run in
    elim (told.given i version new given) [
      | inl kept ↦ inl kept
      | inr holds ↦ elim (told.marking i version (ap marks holds)) [
        | inl standing ↦ inr (inl (stands start events i version run standing))
        | inr over ↦ inr (inr over.answered)
      ]
    ]

pub one_runs_at_once : OneRunsAtOnce
one_runs_at_once start events i j v w run is_i is_j =
    let told = told_at_last (begin start) [] events (told_begin start) (sound_begin start) run in
    elim (told.marking i v (ap marks is_i)) [
      | inl a ↦ elim (told.marking j w (ap marks is_j)) [
        | inl b ↦ inl (let e = a.by in let f = b.by in cc)
        | inr over ↦ inr (inr over.answered)
      ]
      | inr over ↦ inr (inl over.answered)
    ]
