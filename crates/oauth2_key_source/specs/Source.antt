-- What a source of keys keeps, and what a call of it does (OpenID Connect Core 1.0, 10.1.1).
use Rattle.std.specs.Prelude.{◌≡◌, ◌⊎◌, ℕ, ℤ, pos, ◌+ℤ◌, int_le, int_lt, Bool, true, false, not, ◌&&◌, ◌||◌, IsTrue, List, [], ◌∷◌, bytes_eq, Option, Some, None, option_map, is_some, IsSomeAnd, Result, Ok, Err, if◌then◌else◌}
use Rattle.jiff_core.specs.declared.timestamp.Timestamp.{Timestamp}
use Rattle.jiff_core.specs.Timestamp.{IsTimestampNanos}
use Rattle.oauth2_openid.specs.Token.{DecodedToken}
use Rattle.oauth2_keys.specs.declared.algorithm.SignatureAlgorithm.{SignatureAlgorithm}
use Rattle.oauth2_keys.specs.declared.json_web_key.ListedKey.{ListedKey}
use Rattle.oauth2_keys.specs.declared.json_web_key.ListedKey.TheVariants.{Usable, Unusable}
use Rattle.oauth2_keys.specs.Verified.{IsRefusal, IsVerified}
use Rattle.oauth2_key_source.specs.declared.key_set_error.KeySetError.{KeySetError}
use Rattle.oauth2_key_source.specs.declared.source_error.KeySourceError.{KeySourceError}
use Rattle.oauth2_key_source.specs.declared.source_error.KeySourceError.TheVariants.{Request, Waits}
use Rattle.oauth2_key_source.specs.declared.verify_error.VerifyError.{VerifyError}
use Rattle.oauth2_key_source.specs.declared.verify_error.VerifyError.TheVariants.{Keys, Signature}
use Rattle.oauth2_key_source.specs.Request.{KeySetQuery}

-- a key set, and the moment from which its age counts, in nanoseconds since 1970
pub record KeptKeys : Type 0 where
  pub keys : List ListedKey
  pub got_at : ℤ

-- where the keys are asked for; the age up to which a kept set is not asked for again, and the time
-- between two requests, in nanoseconds; whether an older set is handed out while no request may be
-- made; the kept set; and the moment from which the wait counts
pub record Source : Type 0 where
  pub query : KeySetQuery
  pub lifetime : ℕ
  pub wait : ℕ
  pub uses_old : Bool
  pub kept : Option KeptKeys
  pub asked_at : Option ℤ

-- ---- the clock

-- the earlier of two moments: if the kept moment is after that of the call, the clock was set back, and
-- that of the call counts
abbrev pub earlier : ℤ → ℤ → ℤ
earlier now moment = if int_lt now moment then now else moment

-- the kept set, which was got at the moment of the call at the latest
abbrev pub keys_found_at : ℤ → KeptKeys → KeptKeys
keys_found_at now kept = record kept { got_at = earlier now kept.got_at }

-- what a call finds
abbrev pub found_at : Source → ℤ → Source
found_at source now = record source {
  kept = option_map (keys_found_at now) source.kept;
  asked_at = option_map (earlier now) source.asked_at;
}

-- ---- when a request is made

-- the key has this name (RFC 7517, 4.5)
abbrev pub is_named : List ℕ → Option (List ℕ) → Bool
is_named key_id None = false
is_named key_id (Some name) = bytes_eq name key_id

-- the name of a key, if it has one (RFC 7517, 4.5)
abbrev pub name_of : ListedKey → Option (List ℕ)
name_of (Usable key) = key.key_id
name_of (Unusable key) = key.key_id

-- one of the keys has this name, if one is asked for
abbrev pub has_key : List ℕ → List ListedKey → Bool
has_key key_id [] = false
has_key key_id (key ∷ keys) = is_named key_id (name_of key) || has_key key_id keys

-- one of the keys has the name that is asked for, if one is
abbrev pub knows : Option (List ℕ) → List ListedKey → Bool
knows None keys = true
knows (Some key_id) keys = has_key key_id keys

-- the set is not older than its lifetime
abbrev pub is_fresh : ℕ → ℤ → Option KeptKeys → Bool
is_fresh lifetime now None = false
is_fresh lifetime now (Some kept) = int_le now (kept.got_at +ℤ pos lifetime)

-- the set is fresh, and knows this name
abbrev pub suffices : ℕ → Option (List ℕ) → ℤ → Option KeptKeys → Bool
suffices lifetime key_id now None = false
suffices lifetime key_id now (Some kept) =
    is_fresh lifetime now (Some kept) && knows key_id kept.keys

-- less than the wait has passed
abbrev pub is_waiting : ℕ → ℤ → Option ℤ → Bool
is_waiting wait now None = false
is_waiting wait now (Some asked_at) = int_lt now (asked_at +ℤ pos wait)

-- a request is made: the kept set does not do, and the wait has passed
abbrev pub is_due : Source → Option (List ℕ) → ℤ → Bool
is_due source key_id now =
    not (suffices source.lifetime key_id now source.kept)
    && not (is_waiting source.wait now source.asked_at)

-- without a request the kept set is handed out: it is fresh, or older ones are used too
abbrev pub is_given : Source → ℤ → Bool
is_given source now =
    is_fresh source.lifetime now source.kept || (source.uses_old && is_some source.kept)

-- ---- a call

-- the source after a request at this moment that brought these keys
abbrev pub after_renewal : Source → ℤ → List ListedKey → Source
after_renewal source now keys = record source {
  kept = Some (record { keys = keys; got_at = now });
  asked_at = Some now;
}

-- the source after a request at this moment that brought no keys
abbrev pub after_failed_request : Source → ℤ → Source
after_failed_request source now = record source { asked_at = Some now }

-- the end of the wait, where it is a moment that there is
abbrev pub IsUntil : ℤ → Option Timestamp → Type 0
IsUntil end (Some until) = until.nanosecond ≡ end
IsUntil end None = IsTimestampNanos end → ⊥

-- no request: the kept set is handed out, or the end of the wait is told
abbrev pub Rests : {RE T : Type 0} → Source → ℤ → Result Unit (KeySourceError RE T) → Type 0
Rests source now (Ok done) = IsTrue (is_given source now)
Rests source now (Err (Request error)) = ⊥
Rests source now (Err (Waits until)) =
    (is_given source now ≡ false)
    × IsSomeAnd source.asked_at (λ from. IsUntil (from +ℤ pos source.wait) until)

module _ {RE T C : Type 0} (asks : KeySetQuery → C → Result (List ListedKey) (KeySetError RE T) → C → Type 0) where
  -- a request, and what is kept after it
  abbrev pub Renews : Source → ℤ → C → Result Unit (KeySourceError RE T) → C → Source → Type 0
  Renews source now before (Ok done) after kept =
      (keys : List ListedKey) × asks source.query before (Ok keys) after × (kept ≡ after_renewal source now keys)
  Renews source now before (Err (Request error)) after kept =
      asks source.query before (Err error) after × (kept ≡ after_failed_request source now)
  Renews source now before (Err (Waits until)) after kept = ⊥

  -- a call at a moment that asks for a key of this name, or for no certain one, by what it finds
  abbrev pub CallsIf : Bool → Source → ℤ → C → Result Unit (KeySourceError RE T) → C → Source
      → Type 0
  CallsIf true source now before result after kept = Renews source now before result after kept
  CallsIf false source now before result after kept =
      Rests source now result × (after ≡ before) × (kept ≡ source)

  -- a call: a request is made if one is due, by what the call finds at this moment
  abbrev pub SourceCalls : Source → Option (List ℕ) → ℤ → C → Result Unit (KeySourceError RE T) → C
      → Source → Type 0
  SourceCalls source key_id now before result after kept =
      let found = found_at source now in CallsIf (is_due found key_id now) found now before result after kept

  -- a call whose answer comes from the set that is kept after it
  abbrev pub SourceAnswers : {A : Type 0} → (List ListedKey → A → Type 0)
      → Source → Option (List ℕ) → ℤ → C → Result A (KeySourceError RE T) → C → Source → Type 0
  SourceAnswers Gives source key_id now before (Ok value) after kept =
      SourceCalls source key_id now before (Ok tt) after kept
      × IsSomeAnd kept.kept (λ k. Gives k.keys value)
  SourceAnswers Gives source key_id now before (Err error) after kept =
      SourceCalls source key_id now before (Err error) after kept

  -- the same with the value as an `Option`, and the error in a slot, which is `None` where there is a value
  abbrev pub SourceAnswersOr : {A : Type 0} → (List ListedKey → A → Type 0)
      → Source → Option (List ℕ) → ℤ → C → Option A → Option (KeySourceError RE T) → C → Source → Type 0
  SourceAnswersOr Gives source key_id now before (Some value) fault after kept =
      (fault ≡ None) × SourceAnswers Gives source key_id now before (Ok value) after kept
  SourceAnswersOr Gives source key_id now before None fault after kept =
      IsSomeAnd fault (λ error. SourceCalls source key_id now before (Err error) after kept)

  -- a token is verified by the set that is kept after a call of the source for its `kid`
  abbrev pub SourceVerifies : Source → SignatureAlgorithm → DecodedToken → ℤ → C
      → Result Unit (VerifyError RE T) → C → Source → Type 0
  SourceVerifies source algorithm token now before (Ok done) after kept =
      SourceCalls source token.header.own.key_id now before (Ok tt) after kept
      × IsSomeAnd kept.kept (λ k. IsVerified k.keys algorithm token)
  SourceVerifies source algorithm token now before (Err (Signature error)) after kept =
      SourceCalls source token.header.own.key_id now before (Ok tt) after kept
      × IsSomeAnd kept.kept (λ k. IsRefusal k.keys algorithm token error)
  SourceVerifies source algorithm token now before (Err (Keys error)) after kept =
      SourceCalls source token.header.own.key_id now before (Err error) after kept
