-- RFC 7662, 2.2: the members of an introspection response.
use Rattle.std.specs.Prelude.{ℕ, ℤ, List, Bool, Option, Some, IfSome, Ok, codes, option_map}
use Rattle.serde_json.specs.Data.{Data, Members, boolean, string, array, object}
use Rattle.oauth2_json.specs.Reading.{Reading, read_then, ◌⊛◌}
use Rattle.oauth2_json.specs.Writing.{Writing, write_then}
use Rattle.oauth2_json.specs.Members.{members_of_object, needed_member, optional_member, present_member, others, beside, optional_writing}
use Rattle.oauth2_json.specs.Values.{text, flag, lowercase_reading, words_reading, texts, text_items}
use Rattle.oauth2_times.specs.Instants.{instant, second_data, IsWholeSeconds}
use Rattle.oauth2_json.specs.Words.{joined_words}
use Rattle.oauth2_json.specs.Puts.{Row, put_all}
use Rattle.oauth2_body_members.specs.Table.{Table, column, ◌▸◌, end, names_of, table_reading, rows_of}
use Rattle.oauth2_replies.specs.Kept.{IsTypeKept, AreFieldsKept, AreScopesKept}

-- an introspection response (RFC 7662, 2.2); times are in nanoseconds since 1970-01-01T00:00:00Z
pub record Introspection (E T : Type 0) : Type 0 where
  pub active : Bool
  pub scopes : Option (List (List ℕ))
  pub client_id : Option (List ℕ)
  pub username : Option (List ℕ)
  pub token_type : Option T
  pub exp : Option ℤ
  pub iat : Option ℤ
  pub nbf : Option ℤ
  pub sub : Option (List ℕ)
  pub aud : Option (List (List ℕ))
  pub iss : Option (List ℕ)
  pub jti : Option (List ℕ)
  pub extra_fields : E

-- an introspection response with these members, in the order of the fields
abbrev pub introspection : {E T : Type 0}
    → Bool
    → Option (List (List ℕ))
    → Option (List ℕ)
    → Option (List ℕ)
    → Option T
    → Option ℤ
    → Option ℤ
    → Option ℤ
    → Option (List ℕ)
    → Option (List (List ℕ))
    → Option (List ℕ)
    → Option (List ℕ)
    → E
    → Introspection E T
introspection a s c u t e i n b d o j x = record {
  active = a;
  scopes = s;
  client_id = c;
  username = u;
  token_type = t;
  exp = e;
  iat = i;
  nbf = n;
  sub = b;
  aud = d;
  iss = o;
  jti = j;
  extra_fields = x;
}

-- the same response with `f` applied to its extra fields and `g` to its token type
abbrev pub introspection_seen : {E T F M : Type 0} → (E → F) → (T → M) → Introspection E T
    → Introspection F M
introspection_seen f g r =
    introspection r.active r.scopes r.client_id r.username (option_map g r.token_type) r.exp r.iat
    r.nbf r.sub r.aud r.iss r.jti (f r.extra_fields)

-- the same response without extra fields, with the JSON value `type_written` as its token type
abbrev pub introspection_written : {E T : Type 0} → Option Data → Introspection E T
    → Introspection (Unit {0}) Data
introspection_written type_written r =
    introspection r.active r.scopes r.client_id r.username type_written r.exp r.iat r.nbf r.sub
    r.aud r.iss r.jti tt

-- each member of RFC 7662, 2.2: how it is read, and how it is written once the token type is JSON
abbrev pub introspection_table : {T : Type 0} → (Data → Reading T)
    → Table (Introspection (Unit {0}) Data)
introspection_table token_type =
    column (codes "active") (needed_member flag) (λ r. Some (boolean r.active))
    ▸ column (codes "scope") (optional_member (words_reading text))
    (λ r. option_map (λ scopes. string (joined_words scopes)) r.scopes)
    ▸ column (codes "client_id") (optional_member text) (λ r. option_map string r.client_id)
    ▸ column (codes "username") (optional_member text) (λ r. option_map string r.username)
    ▸ column (codes "token_type") (present_member (lowercase_reading token_type))
    (λ r. r.token_type)
    ▸ column (codes "exp") (optional_member instant) (λ r. option_map second_data r.exp)
    ▸ column (codes "iat") (optional_member instant) (λ r. option_map second_data r.iat)
    ▸ column (codes "nbf") (optional_member instant) (λ r. option_map second_data r.nbf)
    ▸ column (codes "sub") (optional_member text) (λ r. option_map string r.sub)
    ▸ column (codes "aud") (optional_member texts)
    (λ r. option_map (λ list. array (text_items list)) r.aud)
    ▸ column (codes "iss") (optional_member text) (λ r. option_map string r.iss)
    ▸ column (codes "jti") (optional_member text) (λ r. option_map string r.jti)
    ▸ end

-- the names of these members, which do not depend on how the token type is read
abbrev pub introspection_names : List (List ℕ)
introspection_names = names_of (introspection_table Ok)

-- reads the members of RFC 7662, 2.2, and then the extra fields from an object of the other members
abbrev pub introspection_in : {E T : Type 0} → (Data → Reading E) → (Data → Reading T) → Members
    → Reading (Introspection E T)
introspection_in extra_fields token_type ms =
    table_reading (introspection_table token_type) (Ok introspection) ms
    ⊛ extra_fields (object (others introspection_names ms))

-- reads an introspection response from a JSON object (RFC 7662, 2.2)
abbrev pub introspection_reading : {E T : Type 0} → (Data → Reading E) → (Data → Reading T) → Data
    → Reading (Introspection E T)
introspection_reading extra_fields token_type d =
    read_then (members_of_object d) (introspection_in extra_fields token_type)

-- the members of RFC 7662, 2.2, and their values; a member without a value is not written;
-- `type_written` is the token type's JSON
abbrev pub introspection_rows : {E T : Type 0} → Option Data → Introspection E T → List Row
introspection_rows type_written r =
    rows_of (introspection_table Ok) (introspection_written type_written r)

-- writes these members and those of the extra fields, whose names must differ, as one object
abbrev pub introspection_writing : {E T : Type 0} → (E → Writing) → (T → Writing)
    → Introspection E T → Writing
introspection_writing extra_fields token_type r =
    write_then (optional_writing token_type r.token_type) (λ t.
    write_then (extra_fields r.extra_fields) (λ x.
    write_then (beside introspection_names x) (λ ms.
    Ok (object (put_all (introspection_rows t r) ms)))))

-- when a written introspection response reads back as itself: `er`, `em` and `ew` are the reading,
-- the meaning and the writing of the extra fields, and `tr`, `tm` and `tw` those of the token type
pub record IsIntrospectionKept {E T F M : Type 0} (er : Data → Reading F) (em : E → F) (ew : E → Writing) (tr : Data → Reading M) (tm : T → M) (tw : T → Writing) (r : Introspection E T) : Type 0 where
  pub token_type : IfSome r.token_type (IsTypeKept tr tm tw)
  pub scopes : AreScopesKept r.scopes
  pub exp : IfSome r.exp IsWholeSeconds
  pub iat : IfSome r.iat IsWholeSeconds
  pub nbf : IfSome r.nbf IsWholeSeconds
  pub extra_fields : AreFieldsKept er em ew r.extra_fields
