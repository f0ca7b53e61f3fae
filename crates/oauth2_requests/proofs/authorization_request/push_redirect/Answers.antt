use Rattle.std.proofs.Common.{refl}
use Rattle.form_urlencoded.proofs.OnLiterals.{form_urlencoded_on_literals}
use Rattle.oauth2_requests.proofs.authorization_request.push_redirect.Goals as goal

pub append_plain_pair-requires : goal.append_plain_pair-requires
unfolding form_urlencoded_on_literals
append_plain_pair-requires c = refl
