use Rattle.std.proofs.Common.{◌≡◌, ◌⊎◌, None, Some, sym, ◌∙◌}
use Rattle.std.proofs.lemmas.Result.{IfOk-weaker}
use Rattle.oauth2_pushed_requests.specs.Parameters.{push_fault}
use Rattle.oauth2_pushed_requests.proofs.PushLaws.{added-extended}
use Rattle.oauth2_pushed_requests.specs.declared.push_fault.PushFault.TheVariants.{Memory}
use Rattle.oauth2_script.specs.Views.{client_view}
use Rattle.oauth2_world.specs.Replay.{client_replies}
use Rattle.oauth2_grant_commands.specs.Push.{pushing_client}
use Rattle.oauth2_grant_commands.proofs.Pushes.{made_of, sent_told, refused_told}
use Rattle.oauth2_grant_commands.proofs.push.push.Goals as goal

pub returns-in-Ok : goal.returns-in-Ok
returns-in-Ok c =
    let client = pushing_client (client_view c.args.client.now) c.args.endpoint.now in
    let auth = c.args.auth_url.now in
    let made = c.in-Ok.pushed in
    IfOk-weaker c.show_pushed.result _ _
    (λ status printed. λ fed pairs extends.
    let all = added-extended auth.url c.args.url.now pairs extends in
    let found : Some made.pairs ≡ Some pairs = sym c.in-Ok.ensures.pairs ∙ all in
    let asking : c.new-pushing.result ≡ client = rw c.as_ref.ensures.value at c.new-pushing.ensures in
    let whose : made.client ≡ client = c.in-Ok.ensures.client ∙ asking in
    let free : push_fault client.client_id client.endpoint auth.url (Some pairs) ≡ None = rw (all, asking) at c.in-Ok.ensures.ok in
    sent_told client auth pairs made c.args.http_client.now c.request-end.new.http_client c.show_pushed.new.events
    status c.request-end.result (made_of made client pairs whose found) free c.request-end.ensures.once fed printed)
    c.show_pushed.ensures

pub returns-in-Err : goal.returns-in-Err
returns-in-Err c =
    let client = pushing_client (client_view c.args.client.now) c.args.endpoint.now in
    let auth = c.args.auth_url.now in
    IfOk-weaker c.show_push_fault.result _ _
    (λ status told. λ fed pairs extends.
    let all = added-extended auth.url c.args.url.now pairs extends in
    let asking : c.new-pushing.result ≡ client = rw c.as_ref.ensures.value at c.new-pushing.ensures in
    let why : (c.in-Err.fault ≡ Memory) ⊎ (push_fault client.client_id client.endpoint auth.url (Some pairs) ≡ Some c.in-Err.fault) = rw (all, asking) at c.in-Err.ensures.err in
    refused_told client auth pairs (client_replies c.args.http_client.now) _ _ status c.in-Err.fault why told.0 told.1)
    c.show_push_fault.ensures
