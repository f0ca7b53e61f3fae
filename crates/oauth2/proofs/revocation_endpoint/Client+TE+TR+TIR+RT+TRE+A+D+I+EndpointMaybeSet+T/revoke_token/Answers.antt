use Rattle.std.proofs.Common.{IfSome, IsErrAnd, codes, option_copied, ap, subst, sym, ◌∙◌}
use Rattle.oauth2_wire.specs.ConfigurationError.{IsInsecureUrl}
use Rattle.oauth2_requests.specs.TokenRevocation.{IsHttps}
use Rattle.oauth2.proofs.revocation_endpoint.Client+TE+TR+TIR+RT+TRE+A+D+I+EndpointMaybeSet+T.revoke_token.Goals as goal

pub returns-in-Some-clause-insecure : goal.returns-in-Some-clause-insecure
returns-in-Some-clause-insecure g c =
    subst (λ endpoint. IfSome endpoint (λ url. ¬ (IsHttps url) → IsErrAnd c.revoke_token_at.result (IsInsecureUrl (codes "revocation"))))
    (ap option_copied (sym c.in-Some.is) ∙ c.revocation_url.ensures) c.revoke_token_at.ensures.insecure
