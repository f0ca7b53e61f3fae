-- Want of memory inside a keeper's call tells whether its client was called.
use Rattle.std.proofs.Common.{◌≡◌, ℕ, List, ◌+◌, ◌-◌, ◌^◌, true, false, Ok, Err, sym, ap, ◌∙◌, subst}
use Rattle.std.specs.Prelude.{ℤ, min, Result}
use Rattle.serde_json.specs.Data.{Data}
use Rattle.oauth2_json.specs.Reading.{Reading}
use Rattle.oauth2_wire.specs.Once.{AsksOnce}
use Rattle.oauth2_wire.specs.Request.{HttpRequest, RequestView, IsRequestOf}
use Rattle.oauth2_wire.specs.Reply.{HttpResponse, ReplyView, Answer, answer_of}
use Rattle.oauth2_wire.specs.declared.error.RequestTokenError.{RequestTokenError}
use Rattle.oauth2_wire.specs.declared.error.RequestTokenError.TheVariants as token
use Rattle.oauth2_keeper.specs.Keeper.{Keeper, Given, IsOutcome, Outcome, quiet, accepted, failed, KeeperCalls}
use Rattle.oauth2_client_refusals_tests.specs.Counted.{Counts, TellsCalls}
use Rattle.oauth2_client_refusals_tests.specs.declared.counting_client.CountingClient.{CountingClient}
use Rattle.oauth2_client_refusals_tests.specs.declared.counting_client.NoReply.{NoReply}

module _ {D A T E : Type 0} (meaning : D → A) (error_meaning : T → E) (before after : CountingClient) (uncalled : before.calls ≡ 0) where
  called : (request : HttpRequest) (answer : Result HttpResponse NoReply) → Counts before request answer after → after.calls ≡ 1
  called request answer did = did.calls ∙ ap (λ n. min (n + 1) (2 ^ 64 - 1)) uncalled

  module _ (says : ReplyView → Answer A E) (IsRequest : List ℕ → RequestView → Type 0) (url : List ℕ) where
    -- of a request that fails
    told_of_request : (error : RequestTokenError NoReply T) → AsksOnce meaning error_meaning Counts says IsRequest url before (Err error) after → TellsCalls {D = Unit} (Err error) after
    told_of_request (token.Memory true) (Ok request, is, target, (answer, did, shown)) = called request answer did
    told_of_request (token.Memory false) (Ok request, is, target, (Ok reply, did, shown)) = cc
    told_of_request (token.Memory false) (Ok request, is, target, (Err error, did, shown)) = cc
    told_of_request (token.Memory true) (Err kind, is, target, (unsent, same)) = cc
    told_of_request (token.Memory false) (Err kind, is, target, (unsent, same)) = ap (λ (c : CountingClient). c.calls) same ∙ uncalled
    told_of_request (token.ServerResponse response) asked = tt
    told_of_request (token.Request error) asked = tt
    told_of_request (token.Parse fault body) asked = tt
    told_of_request (token.Other text) asked = tt

  module _ (reading : Data → Reading A) (error_reading : Data → Reading E) (given : D → Given) (keeper : Keeper) (now : ℤ) where
    told_of_outcome : (result : Result Unit (RequestTokenError NoReply T)) (outcome : Outcome)
        → IsOutcome (λ rule. AsksOnce meaning error_meaning Counts (answer_of rule reading error_reading)) given keeper now before result after outcome → TellsCalls result after
    told_of_outcome (Ok done) outcome is = tt
    told_of_outcome (Err error) quiet (good, is, same) = cc
    told_of_outcome (Err error) (accepted given) (stale, is, renews) = cc
    told_of_outcome result failed (stale, (error, is, (endpoint, there, asked))) =
        subst (λ r. TellsCalls r after) (sym is) (told_of_request (answer_of keeper.client.reply_rule reading error_reading) (IsRequestOf _) _ error asked)

    pub told_of_call : (result : Result Unit (RequestTokenError NoReply T)) (kept : Keeper)
        → KeeperCalls (λ rule. AsksOnce meaning error_meaning Counts (answer_of rule reading error_reading)) given keeper now before result after kept → TellsCalls result after
    told_of_call result kept (outcome, is, _) = told_of_outcome result outcome is
