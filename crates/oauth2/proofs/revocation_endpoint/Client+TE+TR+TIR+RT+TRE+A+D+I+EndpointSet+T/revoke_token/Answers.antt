use Rattle.std.proofs.Common.{IfSome, IsErrAnd, codes, subst, sym}
use Rattle.oauth2_wire.specs.ConfigurationError.{IsInsecureUrl}
use Rattle.oauth2_requests.specs.TokenRevocation.{IsHttps}
use Rattle.oauth2.proofs.revocation_endpoint.Client+TE+TR+TIR+RT+TRE+A+D+I+EndpointSet+T.revoke_token.Goals as goal

pub returns-clause-insecure : goal.returns-clause-insecure
returns-clause-insecure g c =
    subst (λ endpoint. IfSome endpoint (λ url. ¬ (IsHttps url) → IsErrAnd c.revoke_token_at.result (IsInsecureUrl (codes "revocation"))))
    (sym c.revocation_url.ensures) c.revoke_token_at.ensures.insecure
