use Rattle.std.proofs.Common.{◌≡◌, Ok, string_bytes, option_map, ap, sym}
use Rattle.serde_json.specs.View.{view}
use Rattle.oauth2_codes.specs.ErrorResponse.{parts_of, error_writing}
use Rattle.oauth2_codes.proofs.ErrorMembers.{error_back}
use Rattle.oauth2_codes.proofs.error_response.StandardErrorResponseToJson.to_json.Goals as goal

pub returns-clause-reads_back : goal.returns-clause-reads_back
returns-clause-reads_back g c back =
    let r = c.args.self.now in
    let T = g.T.FromJson in
    let writing = g.T.ToJson.writing in
    let written : error_writing writing (parts_of (λ t. t) r) ≡ Ok (view c.in_ok-object_of.field-0) = rw c.in_ok-error.ensures (ap Ok (sym c.in_ok-object_of.ensures)) in
    error_back T.reading T.meaning writing r.error (option_map string_bytes r.error_description) (option_map string_bytes r.error_uri) (view c.in_ok-object_of.field-0) written back
