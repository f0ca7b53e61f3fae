use Rattle.std.proofs.Common.{Ok, Err, refl}
use Rattle.oauth2_redirect.proofs.authorized_login.AuthorizedLogin.request_for_login.Goals as goal

pub returns-in-Ok-clause-end : goal.returns-in-Ok-clause-end
returns-in-Ok-clause-end g c = (Ok c.in-Ok.token, refl, c.in-Ok.ensures.once)

pub returns-in-Err-clause-end : goal.returns-in-Err-clause-end
returns-in-Err-clause-end g c = (Err c.in-Err.error, refl, c.in-Err.ensures.once)
