use Rattle.oauth2_login_laws.proofs.Runs.{each_request_is_its_logins}
use Rattle.oauth2_login_laws.proofs.laws.each_request_is_its_logins.Goals as goal

pub returns : goal.returns
returns c = each_request_is_its_logins
