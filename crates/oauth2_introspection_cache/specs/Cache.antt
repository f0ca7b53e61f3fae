-- What a cache of introspection answers keeps, and what a call of it does (RFC 7662, 4).
use Rattle.std.specs.Prelude.{◌≡◌, ◌⊎◌, ℕ, ℤ, pos, ◌+ℤ◌, int_le, int_lt, Bool, true, false, ◌&&◌, List, Option, Some, None, option_map, Result, Ok, Err, if◌then◌else◌}
use Rattle.std.specs.Map.{lookup, remove_entry}
use Rattle.lru.specs.LruCache.{LruCache, promoted, put_entries}
use Rattle.url.specs.Parts.{serialize}
use Rattle.oauth2_types.specs.Digest.{digest_eq}
use Rattle.oauth2_urls.specs.Addressed.{Addressed}
use Rattle.oauth2_wire.specs.declared.content_type.ReplyRule.{ReplyRule}
use Rattle.oauth2_wire.specs.declared.error.RequestTokenError.{RequestTokenError}
use Rattle.oauth2_wire.specs.declared.error.RequestTokenError.TheVariants.{Memory}
use Rattle.oauth2_wire.specs.Request.{RequestView, IsRequestOf}
use Rattle.oauth2_requests.specs.TokenIntrospection.{introspection_configuration}
use Rattle.oauth2.specs.NewRequest.{new_introspection_request}
use Rattle.oauth2.specs.Settings.{Settings}

-- the answer that a token is active, and the moment of the call that asked for it, in nanoseconds
-- since 1970
pub record KeptAnswer (D : Type 0) : Type 0 where
  pub answer : D
  pub asked_at : ℤ

-- a client with its introspection endpoint; for how long an answer may be used, in nanoseconds; and
-- the answers that are kept, each with its token, with the greatest number of them: that of the token
-- that was asked about last is the first
pub record Cache (D : Type 0) : Type 0 where
  pub client : Settings
  pub longest : ℕ
  pub kept : LruCache (List ℕ) (KeptAnswer D)

-- ---- when an answer is good

-- the moment is before that at which the token expires (RFC 7662, 2.2), if it does
abbrev pub is_before : ℤ → Option ℤ → Bool
is_before now None = true
is_before now (Some end) = int_lt now end

module _ {D : Type 0} (expires : D → Option ℤ) where
  -- an answer may be used: it was asked for no later than now, less than the longest time ago, and its
  -- token has not expired (RFC 7662, 4: not beyond the time of `exp`)
  abbrev pub is_good_at : ℕ → ℤ → KeptAnswer D → Bool
  is_good_at longest now kept =
      int_le kept.asked_at now
      && (int_lt now (kept.asked_at +ℤ pos longest) && is_before now (expires kept.answer))

  abbrev pub good_of : ℕ → ℤ → Option (KeptAnswer D) → Option D
  good_of longest now None = None
  good_of longest now (Some kept) = if is_good_at longest now kept then Some kept.answer else None

  -- the answer that is kept for a token, if it may be used; tokens are compared by their digests
  abbrev pub good_answer : Cache D → List ℕ → ℤ → Option D
  good_answer cache token now =
      good_of cache.longest now (lookup (digest_eq token) cache.kept.entries)

-- how a call ends: a good answer is kept, and nothing is sent; or the server is asked, and it says that
-- the token is active, or that it is not; or the request fails
pub data Outcome (D : Type 0) : Type 0 where
  remembered : D → Outcome D
  active : D → Outcome D
  inactive : Outcome D
  failed : Outcome D

module _ {D : Type 0} where
  -- the answer that is kept for a token, good or not
  abbrev pub kept_answer : Cache D → List ℕ → Option D
  kept_answer cache token =
      option_map (λ kept. kept.answer) (lookup (digest_eq token) cache.kept.entries)

  -- ---- what is kept afterwards

  abbrev pub with_entries : Cache D → List (List ℕ × KeptAnswer D) → Cache D
  with_entries cache entries = record cache { kept = record cache.kept { entries = entries } }

  -- nothing of this token is kept
  abbrev pub forgetting : Cache D → List ℕ → Cache D
  forgetting cache token = with_entries cache (remove_entry (digest_eq token) cache.kept.entries)

  -- the token is the one that was asked about last
  abbrev pub promoting : Cache D → List ℕ → Cache D
  promoting cache token = with_entries cache (promoted (digest_eq token) cache.kept.entries)

  -- this answer is kept for the token; where there is no room for one more, that of the token that was
  -- asked about longest ago goes
  abbrev pub keeping : Cache D → List ℕ → KeptAnswer D → Cache D
  keeping cache token kept = with_entries cache (put_entries digest_eq cache.kept token kept)

  -- what is kept after a call for a token at `now`
  abbrev pub kept_after : Cache D → List ℕ → ℤ → Outcome D → Cache D
  kept_after cache token now (remembered answer) = promoting cache token
  kept_after cache token now (active answer) =
      keeping (forgetting cache token) token (record { answer = answer; asked_at = now })
  kept_after cache token now inactive = forgetting cache token
  kept_after cache token now failed = forgetting cache token

-- ---- a call

module _ {D T RE C : Type 0} (asks : ReplyRule → (List ℕ → RequestView → Type 0) → List ℕ → C → Result D (RequestTokenError RE T) → C → Type 0) where
  -- the server is asked about the token at the client's introspection endpoint (RFC 7662, 2.1)
  abbrev pub Introspects : Cache D → List ℕ → C → Result D (RequestTokenError RE T) → C → Type 0
  Introspects cache token before answer after =
      (endpoint : Addressed) × (cache.client.introspection_url ≡ Some endpoint)
      × asks cache.client.reply_rule
      (IsRequestOf (introspection_configuration (new_introspection_request cache.client endpoint token)))
      (serialize endpoint.url) before answer after

  module _ (is_active : D → Bool) (expires : D → Option ℤ) where
    -- the error is the request's, or memory ran out when its reply was to be kept
    abbrev pub FailsWith : Cache D → List ℕ → C → RequestTokenError RE T → C → Type 0
    FailsWith cache token before error after =
        Introspects cache token before (Err error) after
        ⊎ ((error ≡ Memory true) × ((reply : D) × (is_active reply ≡ true) × Introspects cache token before (Ok reply) after))

    -- a call for a token at `now` with this outcome: what it does to the HTTP client, and whether the
    -- token is active
    abbrev pub IsOutcome : Cache D → List ℕ → ℤ → C → Result Bool (RequestTokenError RE T) → C
        → Outcome D → Type 0
    IsOutcome cache token now before result after (remembered answer) =
        (good_answer expires cache token now ≡ Some answer) × (result ≡ Ok true) × (after ≡ before)
    IsOutcome cache token now before result after (active answer) =
        (good_answer expires cache token now ≡ None) × (result ≡ Ok true)
        × ((is_active answer ≡ true) × Introspects cache token before (Ok answer) after)
    IsOutcome cache token now before result after inactive =
        (good_answer expires cache token now ≡ None) × (result ≡ Ok false)
        × ((answer : D) × (is_active answer ≡ false) × Introspects cache token before (Ok answer) after)
    IsOutcome cache token now before result after failed =
        (good_answer expires cache token now ≡ None)
        × ((error : RequestTokenError RE T) × (result ≡ Err error) × FailsWith cache token before error after)

    -- a call for a token at `now`: its result, and what is kept before and after it
    abbrev pub CacheCalls : Cache D → List ℕ → ℤ → C → Result Bool (RequestTokenError RE T) → C
        → Cache D → Type 0
    CacheCalls cache token now before result after next =
        (outcome : Outcome D) × IsOutcome cache token now before result after outcome × (next ≡ kept_after cache token now outcome)

    -- a call whose value is one that `Shows` allows for the answer that is kept after it; there is none
    -- for a token that is not active
    abbrev pub CacheAnswers : {A : Type 0} → (D → A → Type 0) → Cache D → List ℕ → ℤ → C
        → Result (Option A) (RequestTokenError RE T) → C → Cache D → Type 0
    CacheAnswers Shows cache token now before (Ok (Some value)) after next =
        CacheCalls cache token now before (Ok true) after next × ((answer : D) × (kept_answer next token ≡ Some answer) × Shows answer value)
    CacheAnswers Shows cache token now before (Ok None) after next =
        CacheCalls cache token now before (Ok false) after next
    CacheAnswers Shows cache token now before (Err error) after next =
        CacheCalls cache token now before (Err error) after next

    -- the same with the value as an `Option`, and the error in a slot; where there is neither, the token is
    -- not active
    abbrev pub CacheAnswersOr : {A : Type 0} → (D → A → Type 0) → Cache D → List ℕ → ℤ → C → Option A
        → Option (RequestTokenError RE T) → C → Cache D → Type 0
    CacheAnswersOr Shows cache token now before (Some value) fault after next =
        (fault ≡ None) × CacheAnswers Shows cache token now before (Ok (Some value)) after next
    CacheAnswersOr Shows cache token now before None (Some error) after next =
        CacheCalls cache token now before (Err error) after next
    CacheAnswersOr Shows cache token now before None None after next =
        CacheCalls cache token now before (Ok false) after next
