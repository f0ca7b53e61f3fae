-- A version names one thing: whoever read it read what is stored where it is the last.
use Rattle.std.proofs.Common.{◌≡◌, ◌≢◌, ℕ, ◌+◌, ◌<◌, List, [], ◌∷◌, ◌++◌, get_or, None, refl, ap, sym, subst, arith, ◌⊎◌, inl, inr}
use Rattle.std.specs.List.{Contains}
use Rattle.std.proofs.lemmas.List.Elements.{Contains-append_left, Contains-push}
use Rattle.oauth2_shared_token.specs.State.{Token, Stored, user_of, at_rest, in_use, empty, Stage, NotBegun, Asking, Marking, Sending, Holding, Returning, Done, put, Shared, stage_of, begin}
use Rattle.oauth2_shared_token.specs.Event.{SharedEvent, Asked, Marked, Sent, Given, Kept, Withdrew, GivenBack, SignedIn, Allowed, LoggedIn, LoggedOut, WasFree, CanHappen, with_stored, gone_on, after}
use Rattle.oauth2_shared_token.specs.Run.{IsRun, at_last}
use Rattle.oauth2_shared_token.proofs.Places.{read-put, in_one_more, only_one}

-- it was stored before, or is
abbrev pub IsOld : Stored → Stored → Type 0
IsOld p store = (p.version < store.version) ⊎ (p ≡ store)

-- a mark was taken, and nothing was sent
abbrev pub IsUnsent : Stage → ℕ → Token → Type 0
IsUnsent stage version token = (stage ≡ Marking version token) ⊎ (stage ≡ Returning version token)

pub record IsSound (s : Shared) : Type 0 where
  pub reads : (p : Stored) → Contains s.past p → IsOld p s.store
  pub asks : (i version : ℕ) (token : Token) → stage_of s i ≡ Asking version token → IsOld (at_rest version token) s.store
  pub unsent : (i version : ℕ) (token : Token) → IsUnsent (stage_of s i) version token → Contains s.past (in_use (version + 1) token i)

old_next : (p a b : Stored) → b.version ≡ a.version + 1 → IsOld p a → IsOld p b
old_next p a b next (inl lt) = inl (omega (arith, next, lt))
old_next p a b next (inr is) = let e : p.version ≡ a.version = ap (λ (q : Stored). q.version) is in inl (omega (arith, next, e))

old_stored : (s : Shared) (new : Stored) → IsSound s → new.version ≡ s.store.version + 1 → (p : Stored) → Contains (s.past ++ new ∷ []) p → IsOld p new
old_stored s new sound next p h =
    elim (in_one_more s.past new p h) [
      | inl before ↦ old_next p s.store new next (sound.reads p before)
      | inr here ↦ inr here
    ]

same_asked : (v w : ℕ) (t u : Token) → Asking v t ≡ Asking w u → at_rest v t ≡ at_rest w u
same_asked v w t u e = cc

still_unsent : (s : Shared) (i j : ℕ) (stage : Stage) (v : ℕ) (t : Token) → IsSound s → ((w : ℕ) (u : Token) → IsUnsent stage w u → Contains s.past (in_use (w + 1) u i)) → IsUnsent (get_or (put NotBegun s.renewals i stage) j NotBegun) v t → Contains s.past (in_use (v + 1) t j)
still_unsent s i j stage v t sound unsent is =
    elim (read-put NotBegun s.renewals i j stage (get_or (put NotBegun s.renewals i stage) j NotBegun) refl) [
      | inl here ↦ subst (λ (k : ℕ). Contains s.past (in_use (v + 1) t k)) (sym here.0) (unsent v t (subst (λ (x : Stage). IsUnsent x v t) here.1 is))
      | inr there ↦ sound.unsent j v t (subst (λ (x : Stage). IsUnsent x v t) (sym there.1) is)
    ]

-- a renewal that gets to a stage where nothing is unsent
nothing_unsent : (s : Shared) (i : ℕ) (stage : Stage) → ((v : ℕ) (t : Token) → Marking v t ≢ stage) → ((v : ℕ) (t : Token) → Returning v t ≢ stage) → (v : ℕ) (t : Token) → IsUnsent stage v t → Contains s.past (in_use (v + 1) t i)
nothing_unsent s i stage no_mark no_return v t (inl e) = absurd (no_mark v t (sym e))
nothing_unsent s i stage no_mark no_return v t (inr e) = absurd (no_return v t (sym e))

-- a renewal gets further than to ask, or asks for what was read
sound_further : (s : Shared) (i : ℕ) (stage : Stage) → IsSound s → ((v : ℕ) (t : Token) → Asking v t ≡ stage → IsOld (at_rest v t) s.store) → ((v : ℕ) (t : Token) → IsUnsent stage v t → Contains s.past (in_use (v + 1) t i)) → IsSound (gone_on s i stage)
sound_further s i stage sound new unsent =
    record {
      reads = sound.reads;
      asks = λ j v t is.
          elim (read-put NotBegun s.renewals i j stage (Asking v t) is) [
            | inl here ↦ new v t here.1
            | inr there ↦ sound.asks j v t there.1
          ];
      unsent = λ j v t is. still_unsent s i j stage v t sound unsent is;
    }

sound_stored : (s : Shared) (new : Stored) → IsSound s → new.version ≡ s.store.version + 1 → IsSound (with_stored s new)
sound_stored s new sound next =
    record {
      reads = old_stored s new sound next;
      asks = λ j version token is. old_next (at_rest version token) s.store new next (sound.asks j version token is);
      unsent = λ j version token is. Contains-append_left s.past (new ∷ []) _ (sound.unsent j version token is);
    }

same_mark : (i v w : ℕ) (t u : Token) → Marking v t ≡ Marking w u → in_use (v + 1) t i ≡ in_use (w + 1) u i
same_mark i v w t u e = let at : v ≡ w = cc in let what : t ≡ u = cc in rw (at, what) refl

same_return : (i v w : ℕ) (t u : Token) → Returning v t ≡ Returning w u → in_use (v + 1) t i ≡ in_use (w + 1) u i
same_return i v w t u e = let at : v ≡ w = cc in let what : t ≡ u = cc in rw (at, what) refl

unsent_marked : (s : Shared) (i version : ℕ) (token : Token) (v : ℕ) (t : Token) → IsUnsent (Marking version token) v t → Contains (s.past ++ in_use (version + 1) token i ∷ []) (in_use (v + 1) t i)
unsent_marked s i version token v t (inl e) =
    subst (Contains (s.past ++ in_use (version + 1) token i ∷ [])) (same_mark i version v token t e) (Contains-push s.past (in_use (version + 1) token i))
unsent_marked s i version token v t (inr e) = absurd cc

unsent_withdrawn : (s : Shared) (i version : ℕ) (token : Token) → IsSound s → stage_of s i ≡ Marking version token → (v : ℕ) (t : Token) → IsUnsent (Returning version token) v t → Contains s.past (in_use (v + 1) t i)
unsent_withdrawn s i version token sound is v t (inl e) = absurd cc
unsent_withdrawn s i version token sound is v t (inr e) =
    subst (Contains s.past) (same_return i version v token t e) (sound.unsent i version token (inl is))

pub sound_after : (s : Shared) (event : SharedEvent) → IsSound s → CanHappen s event → IsSound (after s event)
sound_after s (Asked i version token) sound can =
    sound_further s i (Asking version token) sound (λ v t e. subst (λ (p : Stored). IsOld p s.store) (same_asked version v token t (sym e)) (sound.reads (at_rest version token) can.1)) (nothing_unsent s i (Asking version token) (λ v t e. cc) (λ v t e. cc))
sound_after s (Marked i version token) sound can =
    sound_further (with_stored s (in_use (version + 1) token i)) i (Marking version token) (sound_stored s (in_use (version + 1) token i) sound (omega (arith, can.1))) (λ v t e. absurd cc) (unsent_marked s i version token)
sound_after s (Sent i version token) sound can = sound_further s i (Sending version) sound (λ v t e. absurd cc) (nothing_unsent s i (Sending version) (λ v t e. cc) (λ v t e. cc))
sound_after s (Given i version new) sound can = sound_further s i (Holding version new) sound (λ v t e. absurd cc) (nothing_unsent s i (Holding version new) (λ v t e. cc) (λ v t e. cc))
sound_after s (Kept i version new) sound can =
    sound_further (with_stored s (at_rest (version + 2) new)) i Done (sound_stored s (at_rest (version + 2) new) sound (omega (arith, can.1))) (λ v t e. absurd cc) (nothing_unsent (with_stored s (at_rest (version + 2) new)) i Done (λ v t e. cc) (λ v t e. cc))
sound_after s (Withdrew i version token) sound can = sound_further s i (Returning version token) sound (λ v t e. absurd cc) (unsent_withdrawn s i version token sound can)
sound_after s (GivenBack i version token) sound can =
    sound_further (with_stored s (at_rest (version + 2) token)) i Done (sound_stored s (at_rest (version + 2) token) sound (omega (arith, can.1))) (λ v t e. absurd cc) (nothing_unsent (with_stored s (at_rest (version + 2) token)) i Done (λ v t e. cc) (λ v t e. cc))
sound_after s (SignedIn i version new) sound can =
    sound_stored s (at_rest (version + 1) new) sound (omega (arith, can.1))
sound_after s (Allowed i version token) sound can =
    sound_stored s (at_rest (version + 1) token) sound (omega (arith, can.1))
sound_after s (LoggedIn version new) sound can =
    sound_stored s (at_rest (version + 1) new) sound (omega (arith, can.1))
sound_after s (LoggedOut version) sound can =
    sound_stored s (empty (version + 1)) sound (omega (arith, can.1))

pub sound_at_last : (s : Shared) (events : List SharedEvent) → IsSound s → IsRun s events → IsSound (at_last s events)
sound_at_last s [] sound run = sound
sound_at_last s (event ∷ events) sound run = sound_at_last (after s event) events (sound_after s event sound run.0) run.1

-- what a renewal asked to mark is what is stored, where the version fits
pub asked_is_stored : (s : Shared) (i version : ℕ) (token : Token) → IsSound s → CanHappen s (Marked i version token) → at_rest version token ≡ s.store
asked_is_stored s i version token sound can =
    elim (sound.asks i version token can.0) [
      | inl less ↦ absurd (omega (arith, less, can.1))
      | inr same ↦ same
    ]

-- what is given back is what is stored
pub returned_is_stored : (s : Shared) (i version : ℕ) (token : Token) → IsSound s → CanHappen s (GivenBack i version token) → in_use (version + 1) token i ≡ s.store
returned_is_stored s i version token sound can =
    elim (sound.reads (in_use (version + 1) token i) (sound.unsent i version token (inr can.0))) [
      | inl less ↦ absurd (omega (arith, less, can.1))
      | inr same ↦ same
    ]

-- what somebody read at rest is so where the version fits
pub rest_is_stored : (s : Shared) (version : ℕ) (token : Token) → IsSound s → Contains s.past (at_rest version token) → s.store.version ≡ version → at_rest version token ≡ s.store
rest_is_stored s version token sound seen fits =
    elim (sound.reads (at_rest version token) seen) [
      | inl less ↦ absurd (omega (arith, less, fits))
      | inr same ↦ same
    ]

nobody : (i : ℕ) (stage : Stage) → get_or {A = Stage} [] i NotBegun ≡ stage → NotBegun ≡ stage
nobody i stage is = is

none_unsent : {P : Type 0} (i version : ℕ) (token : Token) → IsUnsent (get_or {A = Stage} [] i NotBegun) version token → P
none_unsent i version token (inl e) = absurd (let none = nobody i (Marking version token) e in cc)
none_unsent i version token (inr e) = absurd (let none = nobody i (Returning version token) e in cc)

-- what was read empty is so where the version fits
pub empty_is_stored : (s : Shared) (version : ℕ) → IsSound s → Contains s.past (empty version) → s.store.version ≡ version → empty version ≡ s.store
empty_is_stored s version sound seen fits =
    elim (sound.reads (empty version) seen) [
      | inl less ↦ absurd (omega (arith, less, fits))
      | inr same ↦ same
    ]

-- nobody uses what was read free
pub free_is_unused : (s : Shared) (version : ℕ) → IsSound s → WasFree s.past version → s.store.version ≡ version → None ≡ user_of s.store.content
free_is_unused s version sound (inl rests) fits = ap (λ (p : Stored). user_of p.content) (rest_is_stored s version rests.0 sound rests.1 fits)
free_is_unused s version sound (inr gone) fits = ap (λ (p : Stored). user_of p.content) (empty_is_stored s version sound gone fits)

pub sound_begin : (start : Token) → IsSound (begin start)
sound_begin start =
    record {
      reads = λ p h. inr (only_one (at_rest 0 start) p h.0 h.1 h.2);
      asks = λ i version token is. absurd (let e = nobody i (Asking version token) is in cc);
      unsent = λ i version token is. none_unsent i version token is;
    }
