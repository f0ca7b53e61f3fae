-- A cache over many calls.
use Rattle.std.specs.Prelude.{◌≡◌, ℕ, ℤ, Bool, IsTrue, List, [], ◌∷◌, ◌++◌, Option, Some, None, Result, if◌then◌else◌}
use Rattle.oauth2_types.specs.Digest.{digest_eq}
use Rattle.oauth2_wire.specs.declared.content_type.ReplyRule.{ReplyRule}
use Rattle.oauth2_wire.specs.declared.error.RequestTokenError.{RequestTokenError}
use Rattle.oauth2_wire.specs.Request.{RequestView}
use Rattle.oauth2_introspection_cache.specs.Cache.{Cache, KeptAnswer, Outcome, remembered, active, inactive, failed, is_good_at, good_answer, kept_answer, forgetting, kept_after, IsOutcome}

-- what happens to a cache: a call for a token at a moment, with its outcome; or it is told to forget
-- a token
pub data CacheEvent (D : Type 0) : Type 0 where
  asked : List ℕ → ℤ → Outcome D → CacheEvent D
  forgotten : List ℕ → CacheEvent D

module _ {D : Type 0} where
  -- the token that an event is about
  abbrev pub token_of : CacheEvent D → List ℕ
  token_of (asked token now outcome) = token
  token_of (forgotten token) = token

  -- what is known of a token after an event about it, if `before` was known: a call that sends nothing
  -- tells nothing new
  abbrev pub known_after : CacheEvent D → Option (KeptAnswer D) → Option (KeptAnswer D)
  known_after (asked token now (remembered answer)) before = before
  known_after (asked token now (active answer)) before =
      Some (record { answer = answer; asked_at = now })
  known_after (asked token now inactive) before = None
  known_after (asked token now failed) before = None
  known_after (forgotten token) before = None

  -- what is known of a token after these events, if `before` was known: the server's last answer that it
  -- is active, if no other answer, no failure and no word to forget it came since
  abbrev pub last_word : List ℕ → Option (KeptAnswer D) → List (CacheEvent D)
      → Option (KeptAnswer D)
  last_word token before [] = before
  last_word token before (event ∷ events) =
      last_word token (if digest_eq token (token_of event) then known_after event before else before) events

  -- the answer that a call has for its caller
  abbrev pub answer_in : Outcome D → Option D
  answer_in (remembered answer) = Some answer
  answer_in (active answer) = Some answer
  answer_in inactive = None
  answer_in failed = None

module _ {D T RE C : Type 0} (asks : ReplyRule → (List ℕ → RequestView → Type 0) → List ℕ → C → Result D (RequestTokenError RE T) → C → Type 0)
    (is_active : D → Bool) (expires : D → Option ℤ) where
  -- events one after another, from what is kept and the client's state before the first to those after
  -- the last
  abbrev pub CacheRuns : Cache D → C → List (CacheEvent D) → C → Cache D → Type 0
  CacheRuns cache before [] after end = (after ≡ before) × (end ≡ cache)
  CacheRuns cache before (asked token now outcome ∷ events) after end =
      (result : Result Bool (RequestTokenError RE T)) × (middle : C) × IsOutcome asks is_active expires cache token now before result middle outcome
      × CacheRuns (kept_after cache token now outcome) middle events after end
  CacheRuns cache before (forgotten token ∷ events) after end =
      CacheRuns (forgetting cache token) before events after end

  -- an answer that is given without a request is the last word about that token, which was asked for
  -- less than the longest time ago, and the token has not expired
  abbrev pub EachAnswerWasTold : Type 0
  EachAnswerWasTold =
      (cache end : Cache D) (before after : C) (events : List (CacheEvent D)) (token : List ℕ) (now : ℤ) (answer : D)
      → cache.kept.entries ≡ []
      → CacheRuns cache before events after end
      → good_answer expires end token now ≡ Some answer
      → (kept : KeptAnswer D) × (last_word token None events ≡ Some kept) × (kept.answer ≡ answer) × IsTrue (is_good_at expires cache.longest now kept)

  -- after a token was forgotten, the next call for it asks the server, whatever happens to others between
  abbrev pub EachForgottenTokenIsAskedAbout : Type 0
  EachForgottenTokenIsAskedAbout =
      (cache end : Cache D) (before after : C) (earlier later : List (CacheEvent D)) (token : List ℕ) (now : ℤ)
      → cache.kept.entries ≡ []
      → CacheRuns cache before (earlier ++ forgotten token ∷ later) after end
      → last_word token None later ≡ None → good_answer expires end token now ≡ None

  -- if a call has an answer for its caller, that answer is kept for the token after the call
  abbrev pub EachOutcomeIsKept : Type 0
  EachOutcomeIsKept =
      (cache : Cache D) (token : List ℕ) (now : ℤ) (before after : C) (result : Result Bool (RequestTokenError RE T)) (outcome : Outcome D) (answer : D)
      → IsOutcome asks is_active expires cache token now before result after outcome
      → answer_in outcome ≡ Some answer
      → kept_answer (kept_after cache token now outcome) token ≡ Some answer
