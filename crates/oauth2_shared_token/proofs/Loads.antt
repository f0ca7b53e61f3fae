-- Whatever a load shows, its token came to be stored.
use Rattle.std.proofs.Common.{◌≡◌, ◌+◌, List, [], ◌∷◌, ◌++◌, ap, sym, subst, ◌∙◌, append_assoc, inl, inr, ℕ, Some}
use Rattle.std.proofs.lemmas.List.{append-nil}
use Rattle.std.specs.List.{Contains}
use Rattle.std.proofs.lemmas.List.Elements.{Contains-append_left, Contains-push}
use Rattle.oauth2_shared_token.specs.State.{Token, token_in, Stored, at_rest, in_use, empty, Shared, begin}
use Rattle.oauth2_shared_token.specs.Event.{SharedEvent, Asked, Marked, Sent, Given, Kept, Withdrew, GivenBack, SignedIn, Allowed, LoggedIn, LoggedOut, after}
use Rattle.oauth2_shared_token.specs.Run.{IsRun, at_last, tokens_stored}
use Rattle.oauth2_shared_token.specs.Laws.{EachReadWasStored}
use Rattle.oauth2_shared_token.proofs.Places.{in_one_more, only_one}
use Rattle.oauth2_shared_token.proofs.Versions.{IsSound, sound_after, sound_begin, asked_is_stored, returned_is_stored}

-- all that ever was stored, and what is, has these tokens
pub record IsSeen (store : Stored) (past : List Stored) (seen : List Token) : Type 0 where
  pub reads : (p : Stored) (t : Token) → Contains past p → token_in p.content ≡ Some t → Contains seen t
  pub now : (t : Token) → token_in store.content ≡ Some t → Contains seen t

-- the same token is stored again, or none
seen_again : (store new : Stored) (past : List Stored) (seen : List Token) → IsSeen store past seen → ((t : Token) → token_in new.content ≡ Some t → Contains seen t) → IsSeen new (past ++ new ∷ []) seen
seen_again store new past seen is same =
    record {
      reads = λ p t h e. elim (in_one_more past new p h) [
        | inl before ↦ is.reads p t before e
        | inr here ↦ same t (sym (ap (λ (q : Stored). token_in q.content) here) ∙ e)
      ];
      now = same;
    }

the_token : (seen : List Token) (new t : Token) → Some new ≡ Some t → Contains (seen ++ new ∷ []) t
the_token seen new t e = let same : new ≡ t = cc in subst (Contains (seen ++ new ∷ [])) same (Contains-push seen new)

-- another is
seen_new : (store : Stored) (version : ℕ) (new : Token) (past : List Stored) (seen : List Token) → IsSeen store past seen → IsSeen (at_rest version new) (past ++ at_rest version new ∷ []) (seen ++ new ∷ [])
seen_new store version new past seen is =
    record {
      reads = λ p t h e. elim (in_one_more past (at_rest version new) p h) [
        | inl before ↦ Contains-append_left seen (new ∷ []) t (is.reads p t before e)
        | inr here ↦ the_token seen new t (sym (ap (λ (q : Stored). token_in q.content) here) ∙ e)
      ];
      now = λ t e. the_token seen new t e;
    }

one_more : (seen : List Token) (new : Token) (rest : List Token) (token : Token) → Contains ((seen ++ new ∷ []) ++ rest) token → Contains (seen ++ new ∷ rest) token
one_more seen new rest token h = subst (λ (xs : List Token). Contains xs token) (append_assoc seen (new ∷ []) rest) h

pub seen_from : (s : Shared) (events : List SharedEvent) (seen : List Token) → IsSound s → IsSeen s.store s.past seen → IsRun s events → (p : Stored) (t : Token) → Contains (at_last s events).past p → token_in p.content ≡ Some t → Contains (seen ++ tokens_stored events) t
seen_from s [] seen sound is run p t h e = subst (λ (xs : List Token). Contains xs t) (sym (append-nil seen)) (is.reads p t h e)
seen_from s (Asked i v u ∷ events) seen sound is run p t h e = seen_from (after s (Asked i v u)) events seen (sound_after s (Asked i v u) sound run.0) is run.1 p t h e
seen_from s (Sent i v u ∷ events) seen sound is run p t h e = seen_from (after s (Sent i v u)) events seen (sound_after s (Sent i v u) sound run.0) is run.1 p t h e
seen_from s (Given i v n ∷ events) seen sound is run p t h e = seen_from (after s (Given i v n)) events seen (sound_after s (Given i v n) sound run.0) is run.1 p t h e
seen_from s (Withdrew i v u ∷ events) seen sound is run p t h e = seen_from (after s (Withdrew i v u)) events seen (sound_after s (Withdrew i v u) sound run.0) is run.1 p t h e
seen_from s (Marked i v u ∷ events) seen sound is run p t h e =
    seen_from (after s (Marked i v u)) events seen (sound_after s (Marked i v u) sound run.0) (seen_again s.store (in_use (v + 1) u i) s.past seen is (λ k f. is.now k (sym (ap (λ (q : Stored). token_in q.content) (asked_is_stored s i v u sound run.0)) ∙ f))) run.1 p t h e
seen_from s (GivenBack i v u ∷ events) seen sound is run p t h e =
    seen_from (after s (GivenBack i v u)) events seen (sound_after s (GivenBack i v u) sound run.0) (seen_again s.store (at_rest (v + 2) u) s.past seen is (λ k f. is.now k (sym (ap (λ (q : Stored). token_in q.content) (returned_is_stored s i v u sound run.0)) ∙ f))) run.1 p t h e
seen_from s (LoggedOut v ∷ events) seen sound is run p t h e =
    seen_from (after s (LoggedOut v)) events seen (sound_after s (LoggedOut v) sound run.0) (seen_again s.store (empty (v + 1)) s.past seen is (λ k f. absurd cc)) run.1 p t h e
seen_from s (Kept i v n ∷ events) seen sound is run p t h e =
    one_more seen n (tokens_stored events) t (seen_from (after s (Kept i v n)) events (seen ++ n ∷ []) (sound_after s (Kept i v n) sound run.0) (seen_new s.store (v + 2) n s.past seen is) run.1 p t h e)
seen_from s (SignedIn i v n ∷ events) seen sound is run p t h e =
    one_more seen n (tokens_stored events) t (seen_from (after s (SignedIn i v n)) events (seen ++ n ∷ []) (sound_after s (SignedIn i v n) sound run.0) (seen_new s.store (v + 1) n s.past seen is) run.1 p t h e)
seen_from s (Allowed i v n ∷ events) seen sound is run p t h e =
    one_more seen n (tokens_stored events) t (seen_from (after s (Allowed i v n)) events (seen ++ n ∷ []) (sound_after s (Allowed i v n) sound run.0) (seen_new s.store (v + 1) n s.past seen is) run.1 p t h e)
seen_from s (LoggedIn v n ∷ events) seen sound is run p t h e =
    one_more seen n (tokens_stored events) t (seen_from (after s (LoggedIn v n)) events (seen ++ n ∷ []) (sound_after s (LoggedIn v n) sound run.0) (seen_new s.store (v + 1) n s.past seen is) run.1 p t h e)

pub each_read_was_stored : EachReadWasStored
each_read_was_stored start events p token run h is =
    seen_from (begin start) events (start ∷ []) (sound_begin start) (record {
      reads = λ q t seen e. the_token [] start t (sym (ap (λ (r : Stored). token_in r.content) (only_one (at_rest 0 start) q seen.0 seen.1 seen.2)) ∙ e);
      now = λ t e. the_token [] start t e;
    }) run p token h is
