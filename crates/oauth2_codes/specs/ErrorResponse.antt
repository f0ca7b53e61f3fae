-- The error response of RFC 6749, 5.2 (and so of RFC 7009, 2.2.1, and RFC 8628, 3.5).
use Rattle.std.specs.Prelude.{◌≡◌, ℕ, List, [], ◌++◌, Option, Some, None, Ok, codes, option_map, string_bytes}
use Rattle.serde_json.specs.Data.{Data, string, object, no_members}
use Rattle.oauth2_json.specs.Reading.{Reading, read_then}
use Rattle.oauth2_json.specs.Writing.{Writing, write_then}
use Rattle.oauth2_json.specs.Members.{members_of_object, needed_member, optional_member}
use Rattle.oauth2_json.specs.Puts.{Row, put_all}
use Rattle.oauth2_json.specs.Values.{text}
use Rattle.oauth2_body_members.specs.Table.{Table, column, ◌▸◌, end, table_reading, rows_of}
use Rattle.oauth2_codes.specs.declared.error_response.StandardErrorResponse.{StandardErrorResponse}

-- the members of an error response (RFC 6749, 5.2): `T` is the type of the code
pub record ErrorParts (T : Type 0) : Type 0 where
  pub error : T
  pub description : Option (List ℕ)
  pub uri : Option (List ℕ)

-- an error response with the code `e`, the description `d` and the URI `u`
abbrev pub parts_of_error : {T : Type 0} → T → Option (List ℕ) → Option (List ℕ) → ErrorParts T
parts_of_error e d u = record { error = e; description = d; uri = u }

-- the members of a response, without their place in memory; `f` is applied to its code
abbrev pub parts_of : {T M : Type 0} → (T → M) → StandardErrorResponse T → ErrorParts M
parts_of f r =
    parts_of_error (f r.error) (option_map string_bytes r.error_description)
    (option_map string_bytes r.error_uri)

-- each member: how it is read, and how it is written once the code is JSON; others are ignored
abbrev pub error_table : {T : Type 0} → (Data → Reading T) → Table (ErrorParts Data)
error_table code =
    column (codes "error") (needed_member code) (λ r. Some r.error)
    ▸ column (codes "error_description") (optional_member text)
    (λ r. option_map string r.description)
    ▸ column (codes "error_uri") (optional_member text) (λ r. option_map string r.uri)
    ▸ end

-- reads an error response from a JSON object; `code` reads its code
abbrev pub error_reading : {T : Type 0} → (Data → Reading T) → Data → Reading (ErrorParts T)
error_reading code d =
    read_then (members_of_object d) (table_reading (error_table code) (Ok parts_of_error))

-- the members that are written of a response, with the JSON value `code` as its code
abbrev pub error_rows : {T : Type 0} → Data → ErrorParts T → List Row
error_rows code r = rows_of (error_table Ok) (parts_of_error code r.description r.uri)

-- writes an error response as a JSON object; `code` writes its code
abbrev pub error_writing : {T : Type 0} → (T → Writing) → ErrorParts T → Writing
error_writing code r =
    write_then (code r.error) (λ d. Ok (object (put_all (error_rows d r) no_members)))

-- the code `t` is written as a JSON string that reads back as `t`
abbrev pub IsReadBack : {T M : Type 0} → (Data → Reading M) → (T → M) → (T → Writing) → T → Type 0
IsReadBack reading meaning writing t =
    (s : List ℕ) × (writing t ≡ Ok (string s)) × (reading (string s) ≡ Ok (meaning t))

-- the description after `: `, or nothing
abbrev pub after_colon : Option (List ℕ) → List ℕ
after_colon None = []
after_colon (Some d) = codes ": " ++ d

-- the URI between ` (see ` and `)`, or nothing
abbrev pub in_brackets : Option (List ℕ) → List ℕ
in_brackets None = []
in_brackets (Some u) = codes " (see " ++ u ++ codes ")"

-- what `Display` writes, where `code` is the text of the code, if it is known: the code, then
-- `: ` and the description, then ` (see `, the URI and `)`
abbrev pub error_text : {T : Type 0} → Option (List ℕ) → ErrorParts T → Option (List ℕ)
error_text code r = option_map (λ c. (c ++ after_colon r.description) ++ in_brackets r.uri) code
