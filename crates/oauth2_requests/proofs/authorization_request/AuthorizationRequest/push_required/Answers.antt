use Rattle.std.proofs.Common.{refl}
use Rattle.form_urlencoded.proofs.OnLiterals.{form_urlencoded_on_literals}
use Rattle.oauth2_form.proofs.QueryLaws.{ExtendsForm-then}
use Rattle.oauth2_requests.proofs.authorization_request.AuthorizationRequest.push_required.Goals as goal

pub returns : goal.returns
returns c =
    let two = ExtendsForm-then c.in_ok-append_plain_pair.ensures.ok c.in_ok-append_plain_pair-2.ensures.ok in
    let three = ExtendsForm-then two c.in_ok-append_plain_pair-3.ensures.ok in
    rw (← c.self.view_is) (rw (c.as_str.ensures, c.as_str-2.ensures.value, c.deref.ensures, c.as_str-3.ensures.value, c.secret.ensures) at three)

pub append_plain_pair-requires : goal.append_plain_pair-requires
unfolding form_urlencoded_on_literals
append_plain_pair-requires c = refl

pub append_plain_pair-requires-2 : goal.append_plain_pair-requires-2
unfolding form_urlencoded_on_literals
append_plain_pair-requires-2 c = refl

pub append_plain_pair-requires-3 : goal.append_plain_pair-requires-3
unfolding form_urlencoded_on_literals
append_plain_pair-requires-3 c = refl
