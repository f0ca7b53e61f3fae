-- The command `extension`: a token by any grant type that is a URI (RFC 6749, 4.5).
use Rattle.std.specs.Prelude.{List}
use Rattle.oauth2_urls.specs.Addressed.{Addressed}
use Rattle.oauth2_grants.specs.Extension.{ExtensionRequest, new_extension_request}
use Rattle.oauth2_request_commands.specs.Client.{WithToken}
use Rattle.oauth2_request_commands.specs.Out.{Output}
use Rattle.oauth2_grant_commands.specs.TokenGrant.{IsTokenAsked, WithExtra, token_client}
use Rattle.oauth2_grant_commands.specs.TokenGrant.{request_with_scopes}
use Rattle.oauth2_script.specs.Client.{Client}
use Rattle.oauth2_script.specs.ExtensionParams.{ExtensionParams}
use Rattle.oauth2_script.specs.Replies.{Reply}

-- the request by the grant type of the command, with its scopes (RFC 6749, 4.5 and 3.3)
abbrev pub extension_request : Client → ExtensionParams → Addressed → ExtensionRequest
extension_request client p url =
    request_with_scopes (new_extension_request (token_client client url) p.grant_type) p.scopes

-- the output of `extension`: that of its request, or that no token endpoint is set
abbrev pub IsExtensionOutput : Client → ExtensionParams → List Reply → Output → Type 0
IsExtensionOutput client p replies o =
    WithToken
    (λ url o. WithExtra (IsTokenAsked replies) (extension_request client p url) p.extra_params o)
    client.endpoints.token o
