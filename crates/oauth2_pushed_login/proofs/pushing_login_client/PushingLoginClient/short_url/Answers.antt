use Rattle.std.proofs.Common.{Ok, Err, refl}
use Rattle.url.specs.declared.error.ParseError.TheVariants.{Overflow}
use Rattle.oauth2_pushed_login.proofs.PushEnds.{follows, is_error}
use Rattle.oauth2_pushed_login.specs.declared.push_login_error.PushLoginError.TheVariants as error
use Rattle.oauth2_pushed_login.proofs.pushing_login_client.PushingLoginClient.short_url.Goals as goal

pub returns-in-Ok-authorization_url : goal.returns-in-Ok-authorization_url
returns-in-Ok-authorization_url g c =
    follows _ c.args.self.now c.self.view_is c.auth_uri-auth_url.result.now c.auth_uri-auth_url.ensures c.client_id.result.now c.client_id.ensures
    c.args.outcome (Ok c.in-Ok.pushed) c.in-Ok.is (Ok c.in-Ok-authorization_url.url) c.in-Ok-authorization_url.ensures.ok

pub returns-in-Ok : goal.returns-in-Ok
returns-in-Ok g c =
    let e = c.in-Err-authorization_url.error in
    follows _ c.args.self.now c.self.view_is c.auth_uri-auth_url.result.now c.auth_uri-auth_url.ensures c.client_id.result.now c.client_id.ensures
    c.args.outcome (Ok c.in-Ok.pushed) c.in-Ok.is (Err (error.Url e))
    (c.in-Err-authorization_url.ensures.refusal, is_error (Err e) e Overflow _ refl c.in-Err-authorization_url.ensures.overflow)

pub returns : goal.returns
returns g c =
    follows _ c.args.self.now c.self.view_is c.auth_uri-auth_url.result.now c.auth_uri-auth_url.ensures _ refl
    c.args.outcome (Err c.in-Err.error) c.in-Err.is (Err (error.Request c.in-Err.error)) refl
