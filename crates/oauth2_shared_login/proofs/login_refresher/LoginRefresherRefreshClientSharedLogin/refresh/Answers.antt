use Rattle.std.proofs.Common.{◌≡◌, rules, true, Some, map}
use Rattle.std.specs.Duration.{as_nanos}
use Rattle.oauth2_wire.specs.Once.{AsksOnce}
use Rattle.oauth2_wire.specs.Reply.{answer_of}
use Rattle.oauth2_shared_login.specs.Login.{refresh_token_of}
use Rattle.oauth2_keeper.specs.TokenTypes.{is_one_of}
use Rattle.oauth2_shared_login.specs.Refreshing.{is_of_client, is_of_endpoint}
use Rattle.oauth2_shared_login.proofs.Requesting.{refreshes_sent}
use Rattle.oauth2_shared_login.proofs.login_refresher.LoginRefresherRefreshClientSharedLogin.refresh.Goals as goal

pub returns-in-Ok-clause-refreshes : goal.returns-in-Ok-clause-refreshes
returns-in-Ok-clause-refreshes g c =
    let own : is_of_client c.args.self.now.client.now c.args.login.now ≡ true = (search rules) in
    let place : is_of_endpoint c.args.self.now.client.now c.args.login.now ≡ true = (search rules) in
    let has : refresh_token_of g.TR.TokenResponse.refresh_token c.args.login.now ≡ Some c.in-Ok.refresh_token = (search rules) in
    let same : c.in-Ok.client ≡ c.args.login.now.client = (search rules) in (
      refreshes_sent (λ rule. AsksOnce g.TR.FromJson.meaning g.TE.FromJson.meaning g.W.SyncHttpClient.step (answer_of rule g.TR.FromJson.reading g.TE.FromJson.reading))
          c.args.self.now.client.now g.W.LoginWorld.reads g.TR.TokenResponse.lifetime (as_nanos c.args.self.now.default_lifetime)
          (λ response. is_one_of (map (λ name. name.now) c.args.self.now.token_types.now) (g.TR.TokenType.AsStr.text (g.TR.TokenResponse.token_type response)))
          g.TR.TokenResponse.refresh_token c.args.login.now c.args.self.now.world c.refresh_by.result c.refresh_by.new.self.world
          c.in-Ok.refresh_token c.in-Ok.client own place has same c.refresh_by.ensures.refreshes,
      c.refresh_by.ensures.client,
      c.refresh_by.ensures.lifetime,
      c.refresh_by.ensures.types,
    )
