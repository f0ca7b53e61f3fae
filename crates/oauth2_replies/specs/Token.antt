-- RFC 6749, 5.1: the members of a token response.
use Rattle.std.specs.Prelude.{ℕ, List, Option, Some, Ok, codes, option_map}
use Rattle.serde_json.specs.Data.{Data, number, unsigned, string, object}
use Rattle.oauth2_json.specs.Reading.{Reading, read_then, ◌⊛◌}
use Rattle.oauth2_json.specs.Writing.{Writing, write_then}
use Rattle.oauth2_json.specs.Members.{members_of_object, needed_member, optional_member, others, beside}
use Rattle.oauth2_json.specs.Values.{text, whole_number, lowercase_reading, words_reading}
use Rattle.oauth2_json.specs.Words.{joined_words}
use Rattle.oauth2_json.specs.Puts.{Row, put_all}
use Rattle.oauth2_body_members.specs.Table.{Table, column, ◌▸◌, end, names_of, table_reading, rows_of}
use Rattle.oauth2_replies.specs.Kept.{IsTypeKept, AreFieldsKept, AreScopesKept}

-- a token response (RFC 6749, 5.1); its lifetime is in seconds
pub record Token (E T : Type 0) : Type 0 where
  pub access_token : List ℕ
  pub token_type : T
  pub expires_in : Option ℕ
  pub refresh_token : Option (List ℕ)
  pub scopes : Option (List (List ℕ))
  pub extra_fields : E

-- a token response with these members, in the order of the fields
abbrev pub token : {E T : Type 0} → List ℕ → T → Option ℕ → Option (List ℕ) → Option (List (List ℕ))
    → E → Token E T
token a t e r s x = record {
  access_token = a;
  token_type = t;
  expires_in = e;
  refresh_token = r;
  scopes = s;
  extra_fields = x;
}

-- the same response with `f` applied to its extra fields and `g` to its token type
abbrev pub token_seen : {E T F M : Type 0} → (E → F) → (T → M) → Token E T → Token F M
token_seen f g r =
    token r.access_token (g r.token_type) r.expires_in r.refresh_token r.scopes (f r.extra_fields)

-- each member of RFC 6749, 5.1: how it is read, and how it is written once the token type is JSON
abbrev pub token_table : {T : Type 0} → (Data → Reading T) → Table (Token (Unit {0}) Data)
token_table token_type =
    column (codes "access_token") (needed_member text) (λ r. Some (string r.access_token))
    ▸ column (codes "token_type") (needed_member (lowercase_reading token_type))
    (λ r. Some r.token_type)
    ▸ column (codes "expires_in") (optional_member whole_number)
    (λ r. option_map (λ n. number (unsigned n)) r.expires_in)
    ▸ column (codes "refresh_token") (optional_member text) (λ r. option_map string r.refresh_token)
    ▸ column (codes "scope") (optional_member (words_reading text))
    (λ r. option_map (λ scopes. string (joined_words scopes)) r.scopes)
    ▸ end

-- the names of these members, which do not depend on how the token type is read
abbrev pub token_names : List (List ℕ)
token_names = names_of (token_table Ok)

-- reads the members of RFC 6749, 5.1, and then the extra fields from an object of the other members
abbrev pub token_reading : {E T : Type 0} → (Data → Reading E) → (Data → Reading T) → Data
    → Reading (Token E T)
token_reading extra_fields token_type d = read_then (members_of_object d) (λ ms.
    table_reading (token_table token_type) (Ok token) ms ⊛ extra_fields (object (others token_names ms)))

-- the members of RFC 6749, 5.1, and their values; a member without a value is not written;
-- `type_written` is the token type's JSON
abbrev pub token_rows : {E T : Type 0} → Data → Token E T → List Row
token_rows type_written r = rows_of (token_table Ok) (token_seen (λ _. tt) (λ _. type_written) r)

-- writes these members and those of the extra fields, whose names must differ, as one object
abbrev pub token_writing : {E T : Type 0} → (E → Writing) → (T → Writing) → Token E T → Writing
token_writing extra_fields token_type r =
    write_then (token_type r.token_type) (λ t.
    write_then (extra_fields r.extra_fields) (λ x.
    write_then (beside token_names x) (λ ms.
    Ok (object (put_all (token_rows t r) ms)))))

-- when a written token response reads back as itself: `er`, `em` and `ew` are the reading, the
-- meaning and the writing of the extra fields, and `tr`, `tm` and `tw` those of the token type
pub record IsTokenKept {E T F M : Type 0} (er : Data → Reading F) (em : E → F) (ew : E → Writing) (tr : Data → Reading M) (tm : T → M) (tw : T → Writing) (r : Token E T) : Type 0 where
  pub token_type : IsTypeKept tr tm tw r.token_type
  pub scopes : AreScopesKept r.scopes
  pub extra_fields : AreFieldsKept er em ew r.extra_fields
