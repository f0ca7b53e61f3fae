use Rattle.oauth2_openid.proofs.Dots.{are_between_dots}
use Rattle.oauth2_openid.proofs.law.parts_are_between_dots.Goals as goal

pub returns : goal.returns
returns c = λ text p. are_between_dots text p
