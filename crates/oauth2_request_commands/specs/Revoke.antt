-- The command `revoke`: a token is revoked (RFC 7009, 2.1).
use Rattle.std.specs.Prelude.{◌≡◌, ◌⊎◌, ℕ, List, ◌++◌, Some, codes}
use Rattle.oauth2_codes.specs.ErrorCodes.{RevocationErrorCode, revocation_error_code_text, revocation_error_code_reading}
use Rattle.oauth2_codes.specs.ErrorResponse.{ErrorParts, error_reading}
use Rattle.oauth2_urls.specs.Addressed.{Addressed}
use Rattle.oauth2_wire.specs.Expected.{Configuration}
use Rattle.oauth2_wire.specs.Reply.{Answer, ReplyView, status_answer_of}
use Rattle.oauth2.specs.NewRequest.{base_of}
use Rattle.oauth2.specs.Settings.{Settings}
use Rattle.oauth2_requests.specs.TokenRevocation.{IsHttps, TokenRevocation, revocation_configuration}
use Rattle.oauth2_request_commands.specs.Client.{WithEndpoint}
use Rattle.oauth2_request_commands.specs.Exchange.{IsPostShown, error_members}
use Rattle.oauth2_request_commands.specs.Out.{Output, failure_output}
use Rattle.oauth2_world.specs.declared.event.FaultKind.TheVariants.{InsecureEndpoint}
use Rattle.oauth2_script.specs.RevokeParams.{RevokeParams}
use Rattle.oauth2_script.specs.Replies.{Reply}
use Rattle.oauth2_script.specs.declared.revoke_params.TokenKind.{TokenKind}
use Rattle.oauth2_script.specs.declared.revoke_params.TokenKind.TheVariants.{Access, Refresh}

-- the `token_type_hint` of a kind of token (RFC 7009, 2.1)
abbrev pub hint_text : TokenKind → List ℕ
hint_text Access = codes "access_token"
hint_text Refresh = codes "refresh_token"

-- the revocation request with the token, its type hint and the extra parameters (RFC 7009, 2.1)
abbrev pub revocation_request : Settings → RevokeParams → Addressed → TokenRevocation
revocation_request client p url = record {
  base = record (base_of client) { extra_params = p.extra_params };
  revocation_url = url;
  token = p.token;
  token_type_hint = Some (hint_text p.kind);
}

-- what a reply to a revocation request says: status 200 is a success (RFC 7009, 2.2), else an error
abbrev pub revocation_answer : ReplyView → Answer Unit (ErrorParts RevocationErrorCode)
revocation_answer = status_answer_of (error_reading revocation_error_code_reading)

-- what is shown of a revocation request: the request, and `null` for a success, or the fault
abbrev pub IsRevoked : Configuration → Addressed → List Reply → Output → Type 0
IsRevoked =
    IsPostShown (λ done. codes "null") (error_members revocation_error_code_text) revocation_answer

-- the output of a command whose endpoint has a URL that is not `https`
abbrev pub insecure : List ℕ → Output
insecure name =
    failure_output InsecureEndpoint
    (codes "Scheme for " ++ name ++ codes " endpoint URL must be HTTPS")

-- the output that `IsOutput` says for an `https` URL, or that the endpoint is not `https`
abbrev pub WithHttps : List ℕ → (Addressed → Output → Type 0) → Addressed → Output → Type 0
WithHttps name IsOutput url o =
    (IsHttps url × IsOutput url o) ⊎ (¬ (IsHttps url) × (o ≡ insecure name))

-- the output of `revoke`: that of its request, or that the endpoint is missing or not `https`
abbrev pub IsRevokeOutput : Settings → RevokeParams → List Reply → Output → Type 0
IsRevokeOutput client p replies o =
    WithEndpoint (codes "revocation")
    (WithHttps (codes "revocation") (λ url o. IsRevoked (revocation_configuration (revocation_request client p url)) url replies o))
    client.revocation_url o
