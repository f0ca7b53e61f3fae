use Rattle.std.proofs.Common.{Ok, Err, refl, subst}
use Rattle.oauth2_wire.specs.Request.{view_of}
use Rattle.oauth2_client_assertions.specs.Assertions.{assertion_pairs}
use Rattle.oauth2_client_assertions.specs.Requests.{IsExtended}
use Rattle.oauth2_client_assertions.proofs.asserting_client.asserted_request.Goals as goal

pub returns-in-Ok-with_assertion : goal.returns-in-Ok-with_assertion
returns-in-Ok-with_assertion g c = (
  Ok c.in-Ok.assertion,
  c.in-Ok.ensures,
  subst (λ t. IsExtended (assertion_pairs c.args.assertion_type t) (view_of c.args.request) (view_of c.in-Ok-with_assertion.sent)) c.deref.ensures c.in-Ok-with_assertion.ensures,
)

pub returns-in-Ok : goal.returns-in-Ok
returns-in-Ok g c = (Ok c.in-Ok.assertion, c.in-Ok.ensures, refl)

pub returns : goal.returns
returns g c = (Err c.in-Err.error, c.in-Err.ensures, refl)
