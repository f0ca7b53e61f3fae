use Rattle.std.proofs.Common.{refl, string_bytes}
use Rattle.oauth2_member_rows.proofs.Tables.{object_read_back}
use Rattle.oauth2_pushed_requests.specs.Response.{PushedAuthorization, pushed_authorization, pushed_table, whole_response}
use Rattle.oauth2_pushed_requests.proofs.Responses.{is_whole, then_is}
use Rattle.oauth2_pushed_requests.proofs.pushed_authorization_response.PushedAuthorizationResponseToJson.to_json.Goals as goal

pub returns-clause-reads_back : goal.returns-clause-reads_back
returns-clause-reads_back c =
    let own = c.self.inside in
    let r = pushed_authorization (string_bytes own.request_uri) own.expires_in in
    rw (← c.self.view_is, c.in_ok-object_of.ensures)
    (then_is _ whole_response r r
    (object_read_back pushed_table r (r.request_uri, (r.expires_in, tt)) refl (refl, (refl, tt))
    PushedAuthorization pushed_authorization)
    (is_whole r c.self.invariant.0 c.self.invariant.1))
