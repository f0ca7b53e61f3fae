use Rattle.std.proofs.Common.{◌≡◌, None, IfOk, rules}
use Rattle.url.specs.Parts.{serialize}
use Rattle.oauth2_wire.specs.Request.{IsRequestOf, view_of}
use Rattle.oauth2_pushed_requests.specs.Parameters.{names_fault}
use Rattle.oauth2_pushed_requests.specs.Pushed.{pushed_configuration}
use Rattle.oauth2_pushed_requests.proofs.PushLaws.{IsPushOf-built}
use Rattle.oauth2_pushed_requests.proofs.pushed_authorization_request.PushedAuthorizationRequest.prepare_request.Goals as goal

pub returns-clause-push : goal.returns-clause-push
returns-clause-push g c =
    let built : IfOk c.push_form.result (λ q. IsRequestOf (pushed_configuration c.args.self.now) (serialize c.args.self.now.client.endpoint) (view_of q)) = search rules in
    let names : names_fault c.args.self.now.client.client_id c.args.self.now.pairs ≡ None = search rules in
    IsPushOf-built c.args.self.now (serialize c.args.self.now.client.endpoint) c.push_form.result names built
