use Rattle.oauth2_form.proofs.QueryLaws.{ExtendsForm-then}
use Rattle.oauth2_requests.proofs.authorization_request.AuthorizationRequest.push_optional.Goals as goal

pub returns : goal.returns
returns c =
    let two = ExtendsForm-then c.in_ok-push_challenge.ensures c.in_ok-push_redirect.ensures in
    let three = ExtendsForm-then two c.in_ok-push_scopes.ensures in
    let four = ExtendsForm-then three c.in_ok-push_extra_params.ensures in
    rw (← c.self.view_is) (rw (c.deref.ensures.value, c.deref-2.ensures.value) at four)
