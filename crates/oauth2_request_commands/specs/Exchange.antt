-- What the output shows of a request to an endpoint.
use Rattle.std.specs.Prelude.{◌≡◌, ◌⊎◌, ℕ, List, Option, Some, None, codes}
use Rattle.http_uri.specs.Uri.{SpellsNone}
use Rattle.serde_json.specs.Data.{Data, string, object, no_members}
use Rattle.serde_json.specs.Written.{compact_text}
use Rattle.url.specs.Parts.{Parts, serialize}
use Rattle.oauth2_codes.specs.Codes.{TokenCode, token_code_text, token_code_reading}
use Rattle.oauth2_codes.specs.ErrorCodes.{ErrorCode, error_code_text, error_code_reading}
use Rattle.oauth2_codes.specs.ErrorResponse.{ErrorParts, parts_of_error, error_reading}
use Rattle.oauth2_json.specs.Puts.{put_all}
use Rattle.oauth2_replies.specs.Kept.{any_object}
use Rattle.oauth2_replies.specs.Token.{Token, token_reading, token_rows}
use Rattle.oauth2_urls.specs.Addressed.{Addressed}
use Rattle.oauth2_wire.specs.declared.content_type.ReplyRule.{ReplyRule}
use Rattle.oauth2_wire.specs.Expected.{Configuration}
use Rattle.oauth2_wire.specs.Reply.{Answer, accepted, refused, unread, other, ReplyView, answer_of}
use Rattle.oauth2_wire.specs.Request.{RequestView, IsRequestOf}
use Rattle.oauth2_request_commands.specs.Out.{Output, success_output, failure_output, no_memory_output, refused_output, not_read, other_output, unsent_output, after_exchange}
use Rattle.oauth2_script.specs.Replies.{Reply}
use Rattle.oauth2_world.specs.Replies.{next_reply}
use Rattle.oauth2_world.specs.declared.event.FaultKind.TheVariants.{RequestFailed}

-- the members of an error response as texts (RFC 6749, 5.2); `code` writes its error code
abbrev pub error_members : {C : Type 0} → (C → List ℕ) → ErrorParts C → ErrorParts (List ℕ)
error_members code r = parts_of_error (code r.error) r.description r.uri

module _ {A E : Type 0} (shown : A → Output) (members : E → ErrorParts (List ℕ)) where
  -- what is shown of an answer: `shown` of a success, the members of an error response, or another
  -- fault
  abbrev pub answer_output : Answer A E → Output
  answer_output (accepted a) = shown a
  answer_output (refused e) = refused_output (members e)
  answer_output (unread fault body) = not_read fault
  answer_output (other said) = other_output said

  -- what is shown of a call: that it failed, or what its reply says
  abbrev pub reply_output : (ReplyView → Answer A E) → Option ReplyView → Output
  reply_output says None = failure_output RequestFailed (codes "Request failed")
  reply_output says (Some reply) = answer_output (says reply)

  -- what is shown of a request: itself with its reply, and then what the reply says, or that memory
  -- ran out; no request is made if the URL has no HTTP target, or if memory ran out before
  abbrev pub IsRequestShown : (ReplyView → Answer A E) → (RequestView → Type 0) → Parts → List Reply
      → Output → Type 0
  IsRequestShown says IsRequest url replies o =
      (o ≡ no_memory_output)
      ⊎ (SpellsNone (serialize url) × (o ≡ unsent_output))
      ⊎ ((request : RequestView) × IsRequest request
      × ((o ≡ after_exchange request replies (reply_output says (next_reply replies))) ⊎ (o ≡ after_exchange request replies no_memory_output)))

-- what is shown of the POST request of a configuration; a success is shown as `json`
abbrev pub IsPostShown : {A E : Type 0} → (A → List ℕ) → (E → ErrorParts (List ℕ))
    → (ReplyView → Answer A E) → Configuration → Addressed → List Reply → Output → Type 0
IsPostShown json members says c endpoint =
    IsRequestShown (λ a. success_output (json a)) members says
    (IsRequestOf c (serialize endpoint.url)) endpoint.url

-- ---- tokens

-- a token response without extension members (RFC 6749, 5.1)
abbrev pub BasicToken : Type 0
BasicToken = Token (Unit {0}) TokenCode

-- a token response as a JSON object; absent members are left out
unfoldable pub token_data : BasicToken → Data
token_data r = object (put_all (token_rows (string (token_code_text r.token_type)) r) no_members)

-- a token response as compact JSON
unfoldable pub token_json : BasicToken → List ℕ
token_json r = compact_text (token_data r)

-- what a reply to a token request says: a token (RFC 6749, 5.1), or an error (RFC 6749, 5.2)
abbrev pub token_answer : ReplyRule → ReplyView → Answer BasicToken (ErrorParts ErrorCode)
token_answer rule =
    answer_of rule (token_reading any_object token_code_reading) (error_reading error_code_reading)

-- what is shown of a token request: the request, and the token or the fault
abbrev pub IsTokenShown : ReplyRule → Configuration → Addressed → List Reply → Output → Type 0
IsTokenShown rule = IsPostShown token_json (error_members error_code_text) (token_answer rule)
