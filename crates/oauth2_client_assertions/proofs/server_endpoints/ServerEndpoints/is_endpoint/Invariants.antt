use Rattle.std.proofs.Common.{◌≡◌, drop}
use Rattle.oauth2_client_assertions.specs.Endpoints.{is_endpoint}
use Rattle.oauth2_client_assertions.proofs.server_endpoints.ServerEndpoints.is_endpoint.Given as goal

abbrev pub invariant-loop-endpoint : goal.invariant-loop-endpoint
invariant-loop-endpoint l = is_endpoint (drop l.endpoint-index l.self) l.target ≡ is_endpoint l.self l.target
