use Rattle.oauth2_login_laws.proofs.Servers.{each_code_goes_to_its_server}
use Rattle.oauth2_login_laws.proofs.laws.each_code_goes_to_its_server.Goals as goal

pub returns : goal.returns
returns c = each_code_goes_to_its_server
