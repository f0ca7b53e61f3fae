-- The command `assertion`: a token by an assertion of another party (RFC 7521, 4.1).
use Rattle.std.specs.Prelude.{ℕ, List}
use Rattle.oauth2_urls.specs.Addressed.{Addressed}
use Rattle.oauth2_grants.specs.BearerGrants.{jwt_bearer_grant, jwt_bearer_pairs, saml2_bearer_grant, saml2_bearer_pairs}
use Rattle.oauth2_grants.specs.Extension.{ExtensionRequest, TokenClientView, new_extension_request, with_params}
use Rattle.oauth2_request_commands.specs.Client.{WithToken}
use Rattle.oauth2_request_commands.specs.Out.{Output}
use Rattle.oauth2_grant_commands.specs.TokenGrant.{IsTokenAsked, WithExtra, token_client}
use Rattle.oauth2_grant_commands.specs.TokenGrant.{request_with_scopes}
use Rattle.oauth2_script.specs.AssertionParams.{AssertionParams}
use Rattle.oauth2_script.specs.Client.{Client}
use Rattle.oauth2_script.specs.Replies.{Reply}
use Rattle.oauth2_script.specs.declared.assertion_params.AssertionKind.{AssertionKind}
use Rattle.oauth2_script.specs.declared.assertion_params.AssertionKind.TheVariants.{Jwt, Saml2}

-- the request by a JWT as it is (RFC 7523, 2.1), or by the XML of a SAML 2.0 assertion, which is sent
-- in base64url (RFC 7522, 2.1)
abbrev pub bearer_request : AssertionKind → TokenClientView → List ℕ → ExtensionRequest
bearer_request Jwt client text =
    with_params (new_extension_request client jwt_bearer_grant) (jwt_bearer_pairs text)
bearer_request Saml2 client text =
    with_params (new_extension_request client saml2_bearer_grant) (saml2_bearer_pairs text)

-- the request by the assertion of the command, with its scopes (RFC 7521, 4.1)
abbrev pub assertion_request : Client → AssertionParams → Addressed → ExtensionRequest
assertion_request client p url =
    request_with_scopes (bearer_request p.kind (token_client client url) p.assertion) p.scopes

-- the output of `assertion`: that of its request, or that no token endpoint is set
abbrev pub IsAssertionOutput : Client → AssertionParams → List Reply → Output → Type 0
IsAssertionOutput client p replies o =
    WithToken
    (λ url o. WithExtra (IsTokenAsked replies) (assertion_request client p url) p.extra_params o)
    client.endpoints.token o
