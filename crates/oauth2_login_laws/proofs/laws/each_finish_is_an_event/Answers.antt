use Rattle.oauth2_login_laws.proofs.Finishes.{each_finish_is_an_event}
use Rattle.oauth2_login_laws.proofs.laws.each_finish_is_an_event.Goals as goal

pub returns : goal.returns
returns g c = each_finish_is_an_event _ _ _ _ _ _
