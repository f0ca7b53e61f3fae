use Rattle.std.specs.Prelude.{string_bytes}
use Rattle.oauth2_grants.proofs.authorization_details.rich_request.RichAuthorizationRequest.add_authorization_details.Goals as goal

pub returns : goal.returns
returns g c =
    (string_bytes c.in_ok-text.text, c.in_ok-text.ensures, cc (c.in_ok-request.ensures, c.into.ensures, c.into-2.ensures))
