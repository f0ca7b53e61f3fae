-- The endpoints of metadata that was read.
use Rattle.std.specs.Option.{ForSome}
use Rattle.oauth2_replies.specs.private.Address.{IsAddress}
use Rattle.oauth2_metadata.specs.Metadata.{EndpointMembers}

-- the URL of each endpoint that is there is its text, parsed
abbrev pub AreAddresses : EndpointMembers → Type 0
AreAddresses m =
    ForSome m.authorization_endpoint IsAddress
    × ForSome m.token_endpoint IsAddress
    × ForSome m.device_authorization_endpoint IsAddress
    × ForSome m.introspection_endpoint IsAddress
    × ForSome m.revocation_endpoint IsAddress
