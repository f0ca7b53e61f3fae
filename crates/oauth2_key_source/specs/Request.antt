-- The request for an issuer's keys at its `jwks_uri` (RFC 8414, 2; OpenID Connect Discovery 1.0, 3), and what its
-- reply says (RFC 7517, 5).
use Rattle.std.specs.Prelude.{◌≡◌, ℕ, ◌==◌, ◌&&◌, Bool, false, IsTrue, List, map, take, drop, bytes_eq, codes, Option, Some, None, Result, Ok, Err, if◌then◌else◌}
use Rattle.std.specs.Char.{to_ascii_lowercase}
use Rattle.url.specs.Parts.{Parts, serialize}
use Rattle.url.specs.Parser.{parse_url, IsOutOfRoom}
use Rattle.url.specs.declared.error.ParseError.{ParseError}
use Rattle.oauth2_wire.specs.ContentType.{ends_the_type}
use Rattle.oauth2_wire.specs.Once.{AsksOnce}
use Rattle.oauth2_wire.specs.Reply.{HttpResponse, ReplyView, Answer, accepted, success_answer}
use Rattle.oauth2_wire.specs.Request.{HttpRequest}
use Rattle.oauth2_wire.specs.declared.content_type.ReplyRule.{ReplyRule}
use Rattle.oauth2_wire.specs.declared.content_type.ReplyRule.TheVariants.{Prefix}
use Rattle.oauth2_wire.specs.declared.error.RequestTokenError.{RequestTokenError}
use Rattle.oauth2_metadata.specs.Issuer.{is_secure}
use Rattle.oauth2_metadata.specs.Reply.{Found, found_seen, of_success}
use Rattle.oauth2_metadata.specs.Request.{IsGetOf}
use Rattle.oauth2_metadata.specs.declared.reply.OtherReply.{OtherReply}
use Rattle.oauth2_keys.specs.KeySet.{set_reading}
use Rattle.oauth2_keys.specs.declared.json_web_key.ListedKey.{ListedKey}
use Rattle.oauth2_key_source.specs.declared.key_set_error.KeySetError.{KeySetError}
use Rattle.oauth2_key_source.specs.declared.key_set_error.KeySetError.TheVariants.{Reply, Status}
use Rattle.oauth2_key_source.specs.declared.url_error.KeySetUrlError.{KeySetUrlError}
use Rattle.oauth2_key_source.specs.declared.url_error.KeySetUrlError.TheVariants.{NotUrl, NotHttps, Memory}

-- where the keys are, and the rule for the Content-Type of the reply
pub record KeySetQuery : Type 0 where
  pub url : Parts
  pub reply_rule : ReplyRule

-- the parser had no room, which says nothing of the text, or the text is no URL
abbrev pub IsNoUrl : List ℕ → KeySetUrlError → Type 0
IsNoUrl text NotUrl =
    (cause : ParseError) × (parse_url None text ≡ Err cause) × ¬ (IsOutOfRoom cause)
IsNoUrl text NotHttps = ⊥
IsNoUrl text Memory = Unit {0}

-- a request to the URL that a text is: `https`, or `http` to this machine itself (RFC 8414, 2)
abbrev pub IsRequestTo : List ℕ → Result KeySetQuery KeySetUrlError → Type 0
IsRequestTo text (Ok query) =
    (parse_url None text ≡ Ok query.url)
    × IsTrue (is_secure query.url)
    × (query.reply_rule ≡ Prefix)
IsRequestTo text (Err NotHttps) =
    (url : Parts) × (parse_url None text ≡ Ok url) × (is_secure url ≡ false)
IsRequestTo text (Err NotUrl) = IsNoUrl text NotUrl
IsRequestTo text (Err Memory) = IsNoUrl text Memory

-- ---- what the reply says

-- the media type of a key set, with any parameters (RFC 7517, 8.5.1)
abbrev pub is_key_set_type : List ℕ → Bool
is_key_set_type value =
    bytes_eq (map to_ascii_lowercase (take 24 value)) (codes "application/jwk-set+json")
    && ends_the_type (drop 24 value)

-- whether a Content-Type is one of a key set
abbrev pub names_key_set : Option (List ℕ) → Bool
names_key_set None = false
names_key_set (Some value) = is_key_set_type value

-- the Content-Type that the rule judges: none, if it is that of a key set
abbrev pub judged_type : Option (List ℕ) → Option (List ℕ)
judged_type content_type = if names_key_set content_type then None else content_type

-- status 200 alone is a success (OpenID Connect Discovery 1.0, 4.2), whose body is the key set; no
-- redirect is followed
abbrev pub keys_answer : {E : Type 0} → ReplyRule → ReplyView → Answer (Found (List ListedKey)) E
keys_answer rule reply =
    if reply.status == 200 then of_success (success_answer rule set_reading (judged_type reply.content_type) reply.body)
    else accepted (Err (reply.status, reply.body))

module _ {RE T : Type 0} where
  -- the key set, or why there is none
  abbrev pub key_set_result : {D : Type 0} → Result (Result D OtherReply) (RequestTokenError RE T)
      → Result D (KeySetError RE T)
  key_set_result (Ok (Ok keys)) = Ok keys
  key_set_result (Ok (Err reply)) = Err (Status reply)
  key_set_result (Err error) = Err (Reply error)

  -- the GET is asked for once, and the result is what its answer says
  abbrev pub AsksForKeys : {F C : Type 0} → (T → F)
      → (C → HttpRequest → Result HttpResponse RE → C → Type 0)
      → KeySetQuery → C → Result (List ListedKey) (KeySetError RE T) → C → Type 0
  AsksForKeys error_meaning step query before result after =
      (outcome : Result (Result (List ListedKey) OtherReply) (RequestTokenError RE T)) × (result ≡ key_set_result outcome)
      × AsksOnce (found_seen (λ keys. keys)) error_meaning step (keys_answer query.reply_rule)
      IsGetOf (serialize query.url) before outcome after
