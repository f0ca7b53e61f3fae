use Rattle.std.proofs.Common.{◌∙◌, List, [], ◌∷◌, ◌++◌, ap}
use Rattle.http_uri.specs.declared.uri.Uri.{Uri}
use Rattle.oauth2_client_assertions.proofs.server_endpoints.ServerEndpoints.add.Goals as goal

pub returns-in-Ok-clause-ok : goal.returns-in-Ok-clause-ok
returns-in-Ok-clause-ok c = (
  c.in_ok-target.target,
  c.in_ok-target.ensures.ok,
  c.in-Ok.ensures.items ∙ ap (λ (others : List Uri). others ++ c.in_ok-target.target ∷ []) c.endpoints.view_is,
)
