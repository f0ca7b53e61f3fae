-- A value that was accepted is what the ready reply says.
use Rattle.std.proofs.Common.{◌≡◌, ℕ, List, Some, Ok, Err, sym}
use Rattle.std.specs.Prelude.{Result, IfOk}
use Rattle.oauth2_wire.specs.Once.{AsksOnce}
use Rattle.oauth2_wire.proofs.OnceLemmas.{AsksOnce-accepted}
use Rattle.oauth2_wire.specs.Request.{RequestView}
use Rattle.oauth2_wire.specs.Reply.{HttpResponse, ReplyView, Answer, accepted, reply_of}
use Rattle.oauth2_wire.specs.declared.error.RequestTokenError.{RequestTokenError}
use Rattle.oauth2_client_refusals_tests.specs.declared.counting_client.CountingClient.{CountingClient}
use Rattle.oauth2_client_refusals_tests.specs.declared.counting_client.NoReply.{NoReply}
use Rattle.oauth2_client_refusals_tests.specs.Counted.{Counts}

module _ {D A T E : Type 0} (meaning : D → A) (error_meaning : T → E) (says : ReplyView → Answer A E) (IsRequest : List ℕ → RequestView → Type 0) (url : List ℕ) (before after : CountingClient) where
  pub accepted_of_ready : (result : Result D (RequestTokenError NoReply T)) → AsksOnce meaning error_meaning Counts says IsRequest url before result after
      → IfOk result (λ value. (reply : HttpResponse) × (before.reply ≡ Some reply) × (says (reply_of reply) ≡ accepted (meaning value)))
  accepted_of_ready (Ok value) asked =
      let sent = AsksOnce-accepted meaning error_meaning Counts says IsRequest url before after value asked in
      (sent.2, sym sent.3.shown, sent.4)
  accepted_of_ready (Err error) asked = tt
