use Rattle.std.proofs.Common.{refl}
use Rattle.form_urlencoded.proofs.OnLiterals.{form_urlencoded_on_literals}
use Rattle.oauth2_wire.proofs.request.push_redirect.Goals as goal

pub push_plain-requires : goal.push_plain-requires
unfolding form_urlencoded_on_literals
push_plain-requires c = refl
