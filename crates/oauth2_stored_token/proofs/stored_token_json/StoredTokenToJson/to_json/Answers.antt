use Rattle.std.proofs.Common.{codes, option_map, refl, string_bytes}
use Rattle.std.specs.Duration.{as_nanos}
use Rattle.oauth2_json.proofs.Objects.{optional-text}
use Rattle.oauth2_member_rows.proofs.Tables.{object_read_back}
use Rattle.oauth2_stored_token.specs.Stored.{Stored, stored_token, stored_table}
use Rattle.oauth2_stored_token.proofs.Back.{moment_back, lifetime_back}
use Rattle.oauth2_stored_token.proofs.stored_token_json.StoredTokenToJson.to_json.Goals as goal

pub returns-clause-reads_back : goal.returns-clause-reads_back
returns-clause-reads_back c =
    let s = c.self.inside in
    let moment = s.accepted_at in
    let lifetime = as_nanos c.lifetime_of.result.now in
    let url = option_map string_bytes s.token_url in
    let same = rw (← c.self.view_is) at c.lifetime_of.ensures.same in
    rw (← c.self.view_is, ← same, c.in_ok-object_of.ensures)
    (object_read_back stored_table (stored_token s.access_token (string_bytes s.token_type) moment.nanosecond lifetime s.refresh_token s.client_id url)
    (s.access_token, (string_bytes s.token_type, (moment.nanosecond, (lifetime, (s.refresh_token, (s.client_id, (url, tt))))))) refl
    (refl, (refl, (moment_back (codes "accepted_at") (codes "accepted_at_nanoseconds") moment.nanosecond moment.in_range, (lifetime_back (codes "lifetime") (codes "lifetime_nanoseconds") lifetime c.lifetime_of.ensures.fits, (optional-text _ s.refresh_token, (optional-text _ s.client_id, (optional-text _ url, tt)))))))
    Stored stored_token)
