use Rattle.oauth2_login_laws.proofs.Answers.{each_answer_is_taken}
use Rattle.oauth2_login_laws.proofs.laws.each_answer_is_taken.Goals as goal

pub returns : goal.returns
returns c = each_answer_is_taken
