-- The sending of a refresh token (RFC 6749, 6): its output, and what goes on after it.
use Rattle.std.specs.Prelude.{◌≡◌, ◌⊎◌, ℕ, List, Option, Some, None, unwrap_or}
use Rattle.http_uri.specs.Uri.{SpellsNone}
use Rattle.url.specs.Parts.{serialize}
use Rattle.oauth2.specs.NewRequest.{base_of}
use Rattle.oauth2.specs.Settings.{Settings}
use Rattle.oauth2_codes.specs.ErrorCodes.{ErrorCode, error_code_text}
use Rattle.oauth2_codes.specs.ErrorResponse.{ErrorParts}
use Rattle.oauth2_requests.specs.Refresh.{refresh_configuration}
use Rattle.oauth2_urls.specs.Addressed.{Addressed}
use Rattle.oauth2_wire.specs.Expected.{Configuration}
use Rattle.oauth2_wire.specs.declared.content_type.ReplyRule.{ReplyRule}
use Rattle.oauth2_wire.specs.Reply.{Answer, accepted, refused, unread, other, ReplyView}
use Rattle.oauth2_wire.specs.Request.{RequestView, IsRequestOf}
use Rattle.oauth2_world.specs.Replies.{next_reply, later_replies}
use Rattle.oauth2_script.specs.Replies.{Reply}
use Rattle.oauth2_request_commands.specs.Exchange.{BasicToken, error_members, reply_output, token_answer, token_json}
use Rattle.oauth2_request_commands.specs.Out.{Output, success_output, no_memory_output, unsent_output, after_exchange}

-- the configuration of the request: the refresh token, and no scope
abbrev pub refreshing : Settings → List ℕ → Addressed → Configuration
refreshing client refresh_token url =
    refresh_configuration (record { base = base_of client; token_url = url; refresh_token = refresh_token })

-- the refresh token that goes on after a token response: its own or, if it has none, the one that was sent
abbrev pub goes_on : List ℕ → Answer BasicToken (ErrorParts ErrorCode) → Option (List ℕ)
goes_on sent (accepted token) = Some (unwrap_or token.refresh_token sent)
goes_on sent (refused error) = None
goes_on sent (unread fault body) = None
goes_on sent (other text) = None

-- and after a call, which may have failed
abbrev pub given_by : ReplyRule → List ℕ → Option ReplyView → Option (List ℕ)
given_by rule sent None = None
given_by rule sent (Some reply) = goes_on sent (token_answer rule reply)

-- what is shown of a call: the token response, or the fault
abbrev pub shown_of : ReplyRule → Option ReplyView → Output
shown_of rule =
    reply_output (λ token. success_output (token_json token)) (error_members error_code_text)
    (token_answer rule)

-- `given` is the refresh token that goes on, if the server gave a token, and `left` are the replies that are left
module _ (rule : ReplyRule) (c : Configuration) (sent : List ℕ) (replies : List Reply) where
  -- this request was sent; where memory runs out after that, nothing is given
  abbrev pub IsSent : RequestView → Output → Option (List ℕ) → List Reply → Type 0
  IsSent request o given left =
      (((o ≡ after_exchange request replies (shown_of rule (next_reply replies))) × (given ≡ given_by rule sent (next_reply replies)))
      ⊎ ((o ≡ after_exchange request replies no_memory_output) × (given ≡ None)))
      × (left ≡ later_replies replies)

  -- one request to this URL; none is sent if memory runs out before, or if the URL has no HTTP target
  abbrev pub IsSentOnce : Addressed → Output → Option (List ℕ) → List Reply → Type 0
  IsSentOnce url o given left =
      ((o ≡ no_memory_output) × (given ≡ None) × (left ≡ replies))
      ⊎ (SpellsNone (serialize url.url) × (o ≡ unsent_output) × (given ≡ None) × (left ≡ replies))
      ⊎ ((request : RequestView) × IsRequestOf c (serialize url.url) request × IsSent request o given left)

-- the refresh token is sent once to the token endpoint
abbrev pub IsRefreshed : Settings → Addressed → List ℕ → List Reply → Output → Option (List ℕ)
    → List Reply → Type 0
IsRefreshed client url sent replies =
    IsSentOnce client.reply_rule (refreshing client sent url) sent replies url
