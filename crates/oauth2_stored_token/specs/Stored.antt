-- A stored token, as a value and as the members of a JSON object.
use Rattle.std.specs.Prelude.{ℕ, ℤ, pos, ◌+ℤ◌, ◌+◌, ◌*◌, ◌/◌, ◌%◌, ◌^◌, nat_lt, unsigned_abs, List, Option, Some, option_map, Ok, Err, codes, if◌then◌else◌}
use Rattle.std.specs.Int.{int_rem_euclid}
use Rattle.url.specs.Parts.{serialize}
use Rattle.serde_json.specs.Data.{Data, Members, number, unsigned, string, object, no_members}
use Rattle.oauth2_json.specs.Reading.{Reading, read_then}
use Rattle.oauth2_json.specs.Writing.{Writing}
use Rattle.oauth2_json.specs.Members.{members_of_object, needed_member, optional_member}
use Rattle.oauth2_json.specs.Puts.{Row, put_all}
use Rattle.oauth2_json.specs.Values.{text, whole_number}
use Rattle.oauth2_json.specs.declared.read.ParseCause.TheVariants as cause
use Rattle.oauth2_body_members.specs.Table.{Table, column, ◌▸◌, end, table_reading, rows_of}
use Rattle.oauth2_member_rows.specs.Rows.{pair_column}
use Rattle.oauth2_times.specs.Instants.{instant, is_instant, second_data}
use Rattle.oauth2_keeper.specs.Keeper.{AcceptedToken, Keeper}

-- a stored token: the token, the refresh token that was kept with it, and the identifier of the
-- client and the URL of the token endpoint that they belong to, if those were stored too
pub record Stored : Type 0 where
  pub token : AcceptedToken
  pub refresh_token : Option (List ℕ)
  pub client_id : Option (List ℕ)
  pub token_url : Option (List ℕ)

-- the stored token with these parts; the time is in nanoseconds since 1970, the lifetime in
-- nanoseconds
abbrev pub stored_token : List ℕ → List ℕ → ℤ → ℕ
    → Option (List ℕ) → Option (List ℕ) → Option (List ℕ) → Stored
stored_token access_token token_type accepted_at lifetime refresh_token client_id token_url = record {
  token = record { access_token = access_token; token_type = token_type; accepted_at = accepted_at; lifetime = lifetime };
  refresh_token = refresh_token;
  client_id = client_id;
  token_url = token_url;
}

-- the URL that a keeper's requests go to, if its token endpoint is set
abbrev pub endpoint_of : Keeper → Option (List ℕ)
endpoint_of keeper = option_map (λ endpoint. serialize endpoint.url) keeper.client.token_url

-- the stored token that is made of what a keeper keeps, if it keeps a token
abbrev pub stored_of : Keeper → Option Stored
stored_of keeper = option_map
    (λ token. record {
      token = token;
      refresh_token = keeper.refresh_token;
      client_id = Some keeper.client.client_id;
      token_url = endpoint_of keeper;
    })
    keeper.token

-- the time `nanos` nanoseconds after `second`, if it is in range; both times are in nanoseconds
-- since 1970
abbrev pub moment_from : List ℕ → ℤ → ℕ → Reading ℤ
moment_from name second nanos =
    if is_instant (second +ℤ pos nanos) then Ok (second +ℤ pos nanos) else Err (record { member = name; cause = cause.OutOfRange })

-- the time in the members `name` (seconds since 1970) and `other` (nanoseconds to add), in
-- nanoseconds since 1970
abbrev pub moment_reading : List ℕ → List ℕ → Option Data → Option Data → Reading ℤ
moment_reading name other seconds nanoseconds =
    read_then (needed_member instant name seconds) (λ second.
    read_then (needed_member whole_number other nanoseconds) (λ nanos. moment_from name second nanos))

-- a lifetime in nanoseconds, of whole seconds and nanoseconds to add; it must be less than 2^64
-- seconds
abbrev pub lifetime_from : List ℕ → ℕ → ℕ → Reading ℕ
lifetime_from name seconds nanos =
    if nat_lt (seconds * 1_000_000_000 + nanos) (2 ^ 64 * 1_000_000_000) then Ok (seconds * 1_000_000_000 + nanos)
    else Err (record { member = name; cause = cause.OutOfRange })

-- the lifetime in the members `name` (seconds) and `other` (nanoseconds to add), in nanoseconds
abbrev pub lifetime_reading : List ℕ → List ℕ → Option Data → Option Data → Reading ℕ
lifetime_reading name other seconds nanoseconds =
    read_then (needed_member whole_number name seconds) (λ whole.
    read_then (needed_member whole_number other nanoseconds) (λ nanos. lifetime_from name whole nanos))

-- the nanoseconds of a time (in nanoseconds since 1970) after its whole seconds, which are rounded
-- down
abbrev pub nanoseconds_of : ℤ → ℕ
nanoseconds_of n = unsigned_abs (int_rem_euclid n (pos 1_000_000_000))

-- a whole number as a JSON number
abbrev pub whole_data : ℕ → Data
whole_data n = number (unsigned n)

-- the members of a stored token: how each is read and written; times are written in whole seconds,
-- and nanoseconds to add to them
abbrev pub stored_table : Table Stored
stored_table =
    column (codes "access_token") (needed_member text) (λ s. Some (string s.token.access_token))
    ▸ column (codes "token_type") (needed_member text) (λ s. Some (string s.token.token_type))
    ▸ pair_column (codes "accepted_at") (codes "accepted_at_nanoseconds") moment_reading
    (λ s. Some (second_data s.token.accepted_at))
    (λ s. Some (whole_data (nanoseconds_of s.token.accepted_at)))
    ▸ pair_column (codes "lifetime") (codes "lifetime_nanoseconds") lifetime_reading
    (λ s. Some (whole_data (s.token.lifetime / 1_000_000_000)))
    (λ s. Some (whole_data (s.token.lifetime % 1_000_000_000)))
    ▸ column (codes "refresh_token") (optional_member text) (λ s. option_map string s.refresh_token)
    ▸ column (codes "client_id") (optional_member text) (λ s. option_map string s.client_id)
    ▸ column (codes "token_url") (optional_member text) (λ s. option_map string s.token_url)
    ▸ end

-- a stored token, read from the members of its JSON object; other members are ignored
abbrev pub stored_token_in : Members → Reading Stored
stored_token_in ms = table_reading stored_table (Ok stored_token) ms

-- a stored token, read from a JSON value, which must be an object
abbrev pub stored_reading : Data → Reading Stored
stored_reading d = read_then (members_of_object d) stored_token_in

-- the members of a stored token's JSON object
abbrev pub stored_rows : Stored → List Row
stored_rows s = rows_of stored_table s

-- the JSON object that a stored token is written as
abbrev pub stored_writing : Stored → Writing
stored_writing s = Ok (object (put_all (stored_rows s) no_members))
