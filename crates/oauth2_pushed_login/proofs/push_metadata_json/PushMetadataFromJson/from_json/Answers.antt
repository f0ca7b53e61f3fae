use Rattle.std.proofs.Common.{codes, option_map}
use Rattle.serde_json.specs.View.{members_view, view}
use Rattle.oauth2_pushed_login.proofs.Kept.{read_address}
use Rattle.oauth2_pushed_login.proofs.push_metadata_json.PushMetadataFromJson.from_json.Goals as goal

pub invariant_of-result : goal.invariant_of-result
invariant_of-result c =
    read_address (codes "pushed_authorization_request_endpoint") (members_view c.in_ok-members.members.entries) (option_map view c.take-endpoint.result) c.in_ok-endpoint.endpoint
    c.take-endpoint.ensures.found c.in_ok-endpoint.ensures
