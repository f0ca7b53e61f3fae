-- Pushes, from what is pushed.
use Rattle.std.proofs.Common.{◌≡◌, ◌⊎◌, inl, inr, List, ◌++◌, None, Some, Result, codes, false, refl, append_assoc}
use Rattle.std.specs.Prelude.{◌≢◌}
use Rattle.url.specs.Parts.{serialize}
use Rattle.oauth2_urls.specs.Addressed.{Addressed}
use Rattle.oauth2_codes.specs.ErrorCodes.{error_code, error_code_text}
use Rattle.oauth2_codes.specs.ErrorResponse.{parts_of}
use Rattle.oauth2_form.specs.Pairs.{Pair}
use Rattle.oauth2_requests.specs.Authorization.{query_pairs}
use Rattle.oauth2.specs.Settings.{Settings}
use Rattle.oauth2_wire.specs.Once.{AsksOnce}
use Rattle.oauth2_wire.specs.Request.{IsRequestOf}
use Rattle.oauth2_pushed_requests.specs.FaultText.{push_fault_text}
use Rattle.oauth2_pushed_requests.specs.Parameters.{push_fault}
use Rattle.oauth2_pushed_requests.specs.Pushed.{PushedRequest, PushingClientView, pushed_configuration}
use Rattle.oauth2_pushed_requests.specs.Response.{PushedAuthorization}
use Rattle.oauth2_pushed_requests.specs.declared.push_fault.PushFault.{PushFault}
use Rattle.oauth2_pushed_requests.specs.declared.push_fault.PushFault.TheVariants.{Memory}
use Rattle.oauth2_request_commands.specs.Authorize.{authorization}
use Rattle.oauth2_request_commands.specs.Client.{missing}
use Rattle.oauth2_request_commands.specs.Exchange.{error_members}
use Rattle.oauth2_request_commands.specs.Faults.{end_output}
use Rattle.oauth2_request_commands.specs.Out.{Output, AddsOutput, Adds, after, failure_output}
use Rattle.oauth2_request_commands.specs.private.Results.{ShownFault, error_seen}
use Rattle.oauth2_request_commands.specs.declared.status.RunStatus.{RunStatus}
use Rattle.oauth2_request_commands.proofs.Exchanges.{request_told}
use Rattle.oauth2_world.specs.Events.{Event}
use Rattle.oauth2_world.specs.declared.event.FaultKind.TheVariants.{BadPush}
use Rattle.oauth2_world.specs.Replay.{ReplaysOrStarves, client_replies}
use Rattle.oauth2_world.specs.declared.replay.ScriptedClient.{ScriptedClient}
use Rattle.oauth2_script.specs.AuthorizeParams.{AuthorizeParams}
use Rattle.oauth2_script.specs.Client.{Client}
use Rattle.oauth2_script.specs.PushParams.{PushParams}
use Rattle.oauth2_script.specs.Replies.{Reply}
use Rattle.oauth2_grant_commands.specs.Push.{IsPushFor, IsPushShown, IsPushedOrRefused, pushed_answer, pushed_output}

-- an output whose first events were added before
pub after_told : (old now new first : List Event) (s : RunStatus) (o : Output) → now ≡ old ++ first → AddsOutput now new s o → AddsOutput old new s (after first o)
after_told old now new first s o so_far (grown, ended) = (rw (grown, so_far) (append_assoc old first o.events), ended)

-- the parameters of an authorization request with more at their end
pub more_pairs : (client : Settings) (p : AuthorizeParams) (more : List Pair) (url : Addressed)
    → query_pairs (authorization client (record p { extra_params = p.extra_params ++ more }) url) ≡ query_pairs (authorization client p url) ++ more
more_pairs client p more url = simp append_assoc

-- the request was made and sent
pub push_told : (url : Addressed) (r : PushedRequest) (old new : ScriptedClient) (events : List Event) (s : RunStatus) (result : Result PushedAuthorization ShownFault)
    → AsksOnce (λ a. a) (parts_of error_code) ReplaysOrStarves (pushed_answer r.client.reply_rule) (IsRequestOf (pushed_configuration r)) (serialize r.client.endpoint) old result new
    → new.is_starved ≡ false
    → AddsOutput new.events events s (end_output error_seen (pushed_output r.client.client_id url) result)
    → Adds old.events events s (IsPushShown url r (client_replies old))
push_told url r old new events s result once fed printed =
    request_told (λ a. a) (parts_of error_code) (pushed_output r.client.client_id url) (error_members error_code_text) (pushed_answer r.client.reply_rule)
    (IsRequestOf (pushed_configuration r)) r.client.endpoint
    old new events s result once fed printed

-- what is pushed is what was found
pub made_of : (made : PushedRequest) (client : PushingClientView) (pairs : List Pair) → made.client ≡ client → Some made.pairs ≡ Some pairs
    → made ≡ record { client = client; pairs = pairs }
made_of made client pairs whose found = let same : made.pairs ≡ pairs = cc in rw (← whose, ← same) refl

-- these parameters were pushed
pub sent_told : (client : PushingClientView) (url : Addressed) (pairs : List Pair) (made : PushedRequest) (old new : ScriptedClient) (events : List Event) (s : RunStatus)
    (result : Result PushedAuthorization ShownFault)
    → made ≡ record { client = client; pairs = pairs } → push_fault client.client_id client.endpoint url.url (Some pairs) ≡ None
    → AsksOnce (λ a. a) (parts_of error_code) ReplaysOrStarves (pushed_answer made.client.reply_rule) (IsRequestOf (pushed_configuration made)) (serialize made.client.endpoint) old result new
    → new.is_starved ≡ false
    → AddsOutput new.events events s (end_output error_seen (pushed_output client.client_id url) result)
    → Adds old.events events s (IsPushedOrRefused client url pairs (client_replies old))
sent_told client url pairs made old new events s result is free once fed printed =
    let r : PushedRequest = record { client = client; pairs = pairs } in
    let asked : AsksOnce (λ a. a) (parts_of error_code) ReplaysOrStarves (pushed_answer client.reply_rule) (IsRequestOf (pushed_configuration r)) (serialize client.endpoint) old result new =
    rw is at once in
    let adds = push_told url r old new events s result asked fed printed in
    let shown : IsPushShown url r (client_replies old) adds.0 = adds.1 in
    (adds.0, rw free shown, adds.2, adds.3)

module _ (client : PushingClientView) (url : Addressed) (pairs : List Pair) (replies : List Reply)
    (old new : List Event) (s : RunStatus) where
  -- these parameters cannot be pushed
  pub refused_told : (e : PushFault) → (e ≡ Memory) ⊎ (push_fault client.client_id client.endpoint url.url (Some pairs) ≡ Some e) → e ≢ Memory
      → AddsOutput old new s (failure_output BadPush (push_fault_text e)) → Adds old new s (IsPushedOrRefused client url pairs replies)
  refused_told e (inl memory) other told = absurd (other memory)
  refused_told e (inr is) other told = (failure_output BadPush (push_fault_text e), rw is refl, told.0, told.1)

-- the client has no endpoint for a push
pub no_push_told : (client : Client) (p : PushParams) (replies : List Reply) (url : Addressed) (old new : List Event) (s : RunStatus)
    → client.endpoints.push ≡ None → AddsOutput old new s (missing (codes "pushed authorization request")) → Adds old new s (IsPushFor client p replies url)
no_push_told client p replies url old new s is told = (missing (codes "pushed authorization request"), rw is refl, told.0, told.1)
