-- RFC 8628, 3.2: the members of a device authorization response.
use Rattle.std.specs.Prelude.{ℕ, List, Option, Some, Ok, codes, option_map}
use Rattle.serde_json.specs.Data.{Data, Members, number, unsigned, string, object}
use Rattle.oauth2_urls.specs.Addressed.{Addressed}
use Rattle.oauth2_json.specs.Reading.{Reading, read_then, ◌⊛◌}
use Rattle.oauth2_json.specs.Writing.{Writing, write_then}
use Rattle.oauth2_json.specs.Members.{members_of_object, needed_member, optional_member, member_or, either_name, others, beside}
use Rattle.oauth2_json.specs.Values.{text, whole_number, url}
use Rattle.oauth2_json.specs.Puts.{Row, put_all}
use Rattle.oauth2_body_members.specs.Table.{Table, column, either_column, ◌▸◌, end, names_of, table_reading, rows_of}

-- a device authorization response (RFC 8628, 3.2); its lifetime and its interval are in seconds
pub record DeviceAuthorization (E : Type 0) : Type 0 where
  pub device_code : List ℕ
  pub user_code : List ℕ
  pub verification_uri : Addressed
  pub verification_uri_complete : Option (List ℕ)
  pub expires_in : ℕ
  pub interval : ℕ
  pub extra_fields : E

-- a response with these members, in the order of the fields
abbrev pub device_authorization : {E : Type 0} → List ℕ → List ℕ → Addressed → Option (List ℕ) → ℕ
    → ℕ → E → DeviceAuthorization E
device_authorization d u v c e i x = record {
  device_code = d;
  user_code = u;
  verification_uri = v;
  verification_uri_complete = c;
  expires_in = e;
  interval = i;
  extra_fields = x;
}

-- the same response with `f` applied to its extra fields
abbrev pub device_seen : {E F : Type 0} → (E → F) → DeviceAuthorization E → DeviceAuthorization F
device_seen f r =
    device_authorization r.device_code r.user_code r.verification_uri r.verification_uri_complete
    r.expires_in r.interval (f r.extra_fields)

-- reads the URL where the user types in the code: `found` is the value under `name`, and `other` is
-- the one under its second name
unfoldable pub address_reading : List ℕ → Option Data → Option Data → Reading Addressed
address_reading name found other = either_name url name found other

-- each member of RFC 8628, 3.2: how it is read, and how it is written; an absent or null `interval`
-- is 5 seconds
abbrev pub device_table : Table (DeviceAuthorization (Unit {0}))
device_table =
    column (codes "device_code") (needed_member text) (λ r. Some (string r.device_code))
    ▸ column (codes "user_code") (needed_member text) (λ r. Some (string r.user_code))
    ▸ either_column (codes "verification_uri") (codes "verification_url") address_reading
    (λ r. Some (string r.verification_uri.text))
    ▸ column (codes "verification_uri_complete") (optional_member text)
    (λ r. option_map string r.verification_uri_complete)
    ▸ column (codes "expires_in") (needed_member whole_number)
    (λ r. Some (number (unsigned r.expires_in)))
    ▸ column (codes "interval") (λ name. member_or whole_number name 5)
    (λ r. Some (number (unsigned r.interval)))
    ▸ end

-- the names of these members, and the second name `verification_url`
abbrev pub device_names : List (List ℕ)
device_names = names_of device_table

-- reads the members of RFC 8628, 3.2, and then the extra fields from an object of the other members
abbrev pub device_in : {E : Type 0} → (Data → Reading E) → Members
    → Reading (DeviceAuthorization E)
device_in extra_fields ms =
    table_reading device_table (Ok device_authorization) ms
    ⊛ extra_fields (object (others device_names ms))

-- reads a device authorization response from a JSON object (RFC 8628, 3.2)
abbrev pub device_reading : {E : Type 0} → (Data → Reading E) → Data
    → Reading (DeviceAuthorization E)
device_reading extra_fields d = read_then (members_of_object d) (device_in extra_fields)

-- the members of RFC 8628, 3.2, and their values; a member without a value is not written
abbrev pub device_rows : {E : Type 0} → DeviceAuthorization E → List Row
device_rows r = rows_of device_table (device_seen (λ _. tt) r)

-- writes these members and those of the extra fields, whose names must differ, as one object
abbrev pub device_writing : {E : Type 0} → (E → Writing) → DeviceAuthorization E → Writing
device_writing extra_fields r =
    write_then (extra_fields r.extra_fields) (λ x.
    write_then (beside device_names x) (λ ms.
    Ok (object (put_all (device_rows r) ms))))
