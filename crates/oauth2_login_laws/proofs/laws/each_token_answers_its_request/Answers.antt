use Rattle.oauth2_login_laws.proofs.Runs.{each_token_answers_its_request}
use Rattle.oauth2_login_laws.proofs.laws.each_token_answers_its_request.Goals as goal

pub returns : goal.returns
returns c = each_token_answers_its_request
