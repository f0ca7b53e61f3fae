use Rattle.std.proofs.Common.{refl, string_bytes}
use Rattle.oauth2_member_rows.proofs.Tables.{object_read_back}
use Rattle.oauth2_stored_token.specs.AtEndpoint.{AtEndpoint, at_endpoint, at_endpoint_table}
use Rattle.oauth2_stored_token.proofs.client_at_endpoint_json.ClientAtEndpointToJson.to_json.Goals as goal

pub returns-clause-reads_back : goal.returns-clause-reads_back
returns-clause-reads_back c =
    let s = c.self.inside in
    let url = string_bytes s.token_url in
    rw (← c.self.view_is, c.in_ok-object_of.ensures)
    (object_read_back at_endpoint_table (at_endpoint s.client_id url) (s.client_id, (url, tt)) refl (refl, (refl, tt)) AtEndpoint at_endpoint)
