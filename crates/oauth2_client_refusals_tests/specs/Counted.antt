-- An HTTP client that counts its calls, and returns one reply.
use Rattle.std.specs.Prelude.{◌≡◌, ◌+◌, ◌-◌, ◌^◌, min, Option, None, Some, Result, Ok, Err, ⊤, if◌then◌else◌}
use Rattle.oauth2_wire.specs.Request.{HttpRequest}
use Rattle.oauth2_wire.specs.Reply.{HttpResponse}
use Rattle.oauth2_wire.specs.declared.error.RequestTokenError.{RequestTokenError}
use Rattle.oauth2_wire.specs.declared.error.RequestTokenError.TheVariants as token
use Rattle.oauth2_client_refusals_tests.specs.declared.counting_client.CountingClient.{CountingClient}
use Rattle.oauth2_client_refusals_tests.specs.declared.counting_client.NoReply.{NoReply}

-- the reply that a call returned, if it returned one
abbrev pub reply_given : Result HttpResponse NoReply → Option HttpResponse
reply_given (Ok reply) = Some reply
reply_given (Err error) = None

-- one call: the count goes up by one (up to the last u64), the request is kept, and the client
-- returns its reply, or an error if it has none, and has no reply after that
pub record Counts (before : CountingClient) (request : HttpRequest) (answer : Result HttpResponse NoReply) (after : CountingClient) : Type 0 where
  pub calls : after.calls ≡ min (before.calls + 1) (2 ^ 64 - 1)
  pub kept : after.request ≡ Some request
  pub shown : reply_given answer ≡ before.reply
  pub given : after.reply ≡ None

-- if memory ran out, the error's field `sent` says whether the client, which had not been called
-- before, was called once or not at all
abbrev pub TellsCalls : {D T : Type 0} → Result D (RequestTokenError NoReply T) → CountingClient
    → Type 0
TellsCalls (Err (token.Memory sent)) after = after.calls ≡ (if sent then 1 else 0)
TellsCalls result after = ⊤
