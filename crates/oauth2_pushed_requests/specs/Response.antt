-- The response to a pushed authorization request (RFC 9126, section 2.2).
use Rattle.std.specs.Prelude.{ℕ, ◌==◌, List, [], bytes_eq, Some, Ok, Err, codes, if◌then◌else◌}
use Rattle.serde_json.specs.Data.{Data, Members, no_members, number, unsigned, string, object}
use Rattle.oauth2_json.specs.Reading.{Reading, read_then}
use Rattle.oauth2_json.specs.declared.read.ParseCause.TheVariants as cause
use Rattle.oauth2_json.specs.Writing.{Writing}
use Rattle.oauth2_json.specs.Members.{members_of_object, needed_member}
use Rattle.oauth2_json.specs.Puts.{Row, put_all}
use Rattle.oauth2_json.specs.Values.{text, whole_number}
use Rattle.oauth2_body_members.specs.Table.{Table, column, ◌▸◌, end, table_reading, rows_of}

-- the text that names the request at the authorization endpoint, and for how many seconds it does
pub record PushedAuthorization : Type 0 where
  pub request_uri : List ℕ
  pub expires_in : ℕ

-- a response with these members
abbrev pub pushed_authorization : List ℕ → ℕ → PushedAuthorization
pushed_authorization request_uri expires_in = record {
  request_uri = request_uri;
  expires_in = expires_in;
}

-- the two members, which a server has to send: how each is read and written
abbrev pub pushed_table : Table PushedAuthorization
pushed_table =
    column (codes "request_uri") (needed_member text) (λ r. Some (string r.request_uri))
    ▸ column (codes "expires_in") (needed_member whole_number)
    (λ r. Some (number (unsigned r.expires_in)))
    ▸ end

-- reads the two members; other members are ignored
abbrev pub pushed_authorization_in : Members → Reading PushedAuthorization
pushed_authorization_in ms = table_reading pushed_table (Ok pushed_authorization) ms

-- a response that names a request and can be used for some time: its text is not empty, and its
-- lifetime is a positive number (RFC 9126, 2.2)
abbrev pub whole_response : PushedAuthorization → Reading PushedAuthorization
whole_response r =
    if bytes_eq r.request_uri [] then Err (record { member = codes "request_uri"; cause = cause.Missing })
    else (if r.expires_in == 0 then Err (record { member = codes "expires_in"; cause = cause.OutOfRange })
    else Ok r)

-- reads a response from a JSON object
abbrev pub pushed_reading : Data → Reading PushedAuthorization
pushed_reading d = read_then (read_then (members_of_object d) pushed_authorization_in) whole_response

-- the two members that are written
abbrev pub pushed_rows : PushedAuthorization → List Row
pushed_rows r = rows_of pushed_table r

-- writes them as an object; no response is refused
abbrev pub pushed_writing : PushedAuthorization → Writing
pushed_writing r = Ok (object (put_all (pushed_rows r) no_members))
