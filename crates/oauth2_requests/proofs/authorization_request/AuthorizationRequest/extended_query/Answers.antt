use Rattle.std.proofs.Common.{refl}
use Rattle.oauth2_form.proofs.QueryLaws.{ExtendsForm-then, ExtendsForm-of_equals}
use Rattle.oauth2_requests.proofs.authorization_request.AuthorizationRequest.extended_query.Goals as goal

pub returns : goal.returns
returns c =
    let appended = ExtendsForm-then c.in_ok-push_required.ensures c.in_ok-push_optional.ensures in
    let extended = ExtendsForm-of_equals c.in_ok-form.ensures.text refl appended in
    rw (← c.self.view_is) (rw (c.url.ensures, ← c.self.view_is) at extended)
