-- What a server's metadata say of pushed authorization requests (RFC 9126, 5).
use Rattle.std.specs.Prelude.{ℕ, List, Bool, false, Option, Ok, codes, option_map, unwrap_or}
use Rattle.serde_json.specs.Data.{Data, Members, no_members, boolean, object}
use Rattle.oauth2_urls.specs.Addressed.{Addressed}
use Rattle.oauth2_json.specs.Members.{members_of_object, optional_member}
use Rattle.oauth2_json.specs.Puts.{Row, put_all}
use Rattle.oauth2_json.specs.Reading.{Reading, read_then}
use Rattle.oauth2_json.specs.Values.{flag, url}
use Rattle.oauth2_json.specs.Writing.{Writing}
use Rattle.oauth2_body_members.specs.Table.{Table, column, ◌▸◌, end, table_reading, rows_of}
use Rattle.oauth2_metadata.specs.Kinds.{address_data}

-- the endpoint to push to, and whether each login has to push (RFC 9126, 5)
pub record PushMembers : Type 0 where
  pub pushed_authorization_request_endpoint : Option Addressed
  pub require_pushed_authorization_requests : Option Bool

-- the two members with these values
abbrev pub push_members : Option Addressed → Option Bool → PushMembers
push_members endpoint required = record {
  pushed_authorization_request_endpoint = endpoint;
  require_pushed_authorization_requests = required;
}

-- the two members: how each is read and written; each may be absent or null
abbrev pub push_table : Table PushMembers
push_table =
    column (codes "pushed_authorization_request_endpoint") (optional_member url)
    (λ m. option_map address_data m.pushed_authorization_request_endpoint)
    ▸ column (codes "require_pushed_authorization_requests") (optional_member flag)
    (λ m. option_map boolean m.require_pushed_authorization_requests)
    ▸ end

-- the two members, read from those of a JSON object; other members are ignored
abbrev pub push_members_in : Members → Reading PushMembers
push_members_in ms = table_reading push_table (Ok push_members) ms

-- the two members, read from a JSON object
abbrev pub push_reading : Data → Reading PushMembers
push_reading d = read_then (members_of_object d) push_members_in

-- the members of the JSON object that they are written as
abbrev pub push_fields : PushMembers → Members
push_fields m = put_all (rows_of push_table m) no_members

-- writes them as an object; none are refused
abbrev pub push_writing : PushMembers → Writing
push_writing m = Ok (object (push_fields m))

-- the server takes no login without a push; false if it does not say (RFC 9126, 5)
abbrev pub requires_push : PushMembers → Bool
requires_push m = unwrap_or m.require_pushed_authorization_requests false
