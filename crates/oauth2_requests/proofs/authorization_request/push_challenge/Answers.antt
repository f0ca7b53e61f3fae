use Rattle.std.proofs.Common.{refl}
use Rattle.form_urlencoded.proofs.OnLiterals.{form_urlencoded_on_literals}
use Rattle.oauth2_form.proofs.QueryLaws.{ExtendsForm-then}
use Rattle.oauth2_requests.proofs.authorization_request.push_challenge.Goals as goal

pub returns-in_ok-append_plain_pair-2 : goal.returns-in_ok-append_plain_pair-2
returns-in_ok-append_plain_pair-2 c =
    let both = ExtendsForm-then c.in_ok-append_plain_pair.ensures.ok c.in_ok-append_plain_pair-2.ensures.ok in
    rw (c.in-Some.is) (rw (c.as_str.ensures, c.as_str-in-Some.ensures.value, c.deref.ensures, c.method.ensures) at both)

pub append_plain_pair-requires : goal.append_plain_pair-requires
unfolding form_urlencoded_on_literals
append_plain_pair-requires c = refl

pub append_plain_pair-requires-in-Some : goal.append_plain_pair-requires-in-Some
unfolding form_urlencoded_on_literals
append_plain_pair-requires-in-Some c = refl
