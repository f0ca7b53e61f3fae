use Rattle.std.proofs.Common.{ap, sym, ◌∙◌}
use Rattle.oauth2_pushed_requests.specs.Pushed.{PushingClientView}
use Rattle.oauth2_pushed_login.specs.PushedUrl.{PushingLogin}
use Rattle.oauth2_pushed_login.proofs.PushEnds.{refused}
use Rattle.oauth2_pushed_login.proofs.pushing_login_client.PushingLoginClient.request.Goals as goal

pub returns-clause-err : goal.returns-clause-err
returns-clause-err g c =
    let whose = ap (λ (k : PushingClientView). k.client_id) c.new-client.ensures ∙ c.client_id.ensures in
    let place = ap (λ (k : PushingClientView). k.endpoint) c.new-client.ensures ∙ c.endpoint.ensures ∙ sym (ap (λ (l : PushingLogin). l.endpoint) c.self.view_is) in
    refused c.new.result _ c.args.self.now c.self.view_is c.auth_uri.result.now c.auth_uri.ensures c.new-client.result whose place c.args.url.now c.new.ensures.err
