use Rattle.oauth2_login_laws.proofs.Numbers.{each_request_has_its_number}
use Rattle.oauth2_login_laws.proofs.laws.each_request_has_its_number.Goals as goal

pub returns : goal.returns
returns c = each_request_has_its_number
