use Rattle.oauth2_redirect.proofs.EndLaws.{RepeatsRedirectUri-of_login}
use Rattle.oauth2_redirect.proofs.laws.login_repeats_redirect_uri.Goals as goal

pub returns : goal.returns
returns c = RepeatsRedirectUri-of_login
