-- What authorization details are in contracts: their JSON value.
use Rattle.serde_json.specs.Data.{Data}
use Rattle.serde_json.specs.View.{view}
use Rattle.oauth2_grants.specs.declared.authorization_details.authorization_details.AuthorizationDetails.{AuthorizationDetails}

-- the JSON array
abbrev pub details_of : AuthorizationDetails → Data
details_of details = view details.value
