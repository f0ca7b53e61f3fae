-- How a text is read as an ID token (OpenID Connect Core 1.0, section 2; RFC 7515).
use Rattle.std.specs.Prelude.{ℕ, nat_le, List, [], ◌∷◌, length, if◌then◌else◌, Option, Some, None, Ok, Err, codes, option_map}
use Rattle.serde_json.specs.Data.{Data, null, Members, string, array, object}
use Rattle.serde_json.specs.Find.{get_member}
use Rattle.oauth2_json.specs.Body.{body_reading}
use Rattle.oauth2_json.specs.Members.{members_of_object, needed_member, optional_member, present_member, others, put_some}
use Rattle.oauth2_json.specs.Puts.{Row}
use Rattle.oauth2_json.specs.Reading.{Reading, read_then, ◌⊛◌}
use Rattle.oauth2_json.specs.Values.{text, texts, text_list, text_items}
use Rattle.oauth2_body_members.specs.Table.{Table, column, ◌▸◌, end, Builder, names_of, table_reading, rows_of}
use Rattle.oauth2_times.specs.Instants.{second_data}
use Rattle.oauth2_openid.specs.declared.read_error.TokenPart.{TokenPart}
use Rattle.oauth2_openid.specs.declared.read_error.TokenPart.TheVariants as part
use Rattle.oauth2_openid.specs.Claims.{Claims, claims}
use Rattle.oauth2_openid.specs.Times.{time}
use Rattle.oauth2_openid.specs.Token.{Header, header, WithOthers, with_others, DecodedCompactToken, decoded_compact_token, DecodedToken, Parts, three_parts, signed_text, bytes_of, TokenReading, too_long, not_three_parts, not_base64, at_fault}

-- the header from its members: if both are wrong, `alg` is the fault. A `kid` has to be a string
-- (RFC 7515, 4.1.4), so it is not null.
abbrev pub header_in : Members → Reading (WithOthers Header)
header_in ms =
    Ok (λ a k o. with_others (header a k) o)
    ⊛ needed_member text (codes "alg") (get_member (codes "alg") ms)
    ⊛ present_member text (codes "kid") (get_member (codes "kid") ms)
    ⊛ Ok (object (others (codes "alg" ∷ codes "kid" ∷ []) ms))

-- the header from its JSON value, which has to be an object (RFC 7515, 4)
abbrev pub header_reading : Data → Reading (WithOthers Header)
header_reading d = read_then (members_of_object d) header_in

-- a claim that no rule needs, and its reading: the value; or, if the reading fails, which is no
-- error, the JSON value, which is kept among the other claims
abbrev pub said_or_left : {A : Type 0} → Data → Reading A → Option A × Option Data
said_or_left d (Ok a) = (Some a, None)
said_or_left d (Err fault) = (None, Some d)

-- the member of a claim that no rule needs, and its reading; absent and null are no claim
abbrev pub unneeded_member : {A : Type 0} → (Data → Reading A) → Option Data
    → Option A × Option Data
unneeded_member kind None = (None, None)
unneeded_member kind (Some null) = (None, None)
unneeded_member kind (Some d) = said_or_left d (kind d)

-- for each claim its name, how it is read, and how it is shown as JSON
abbrev pub id_token_table : Table Claims
id_token_table =
    column (codes "iss") (needed_member text) (λ c. Some (string c.issuer))
    ▸ column (codes "sub") (needed_member text) (λ c. Some (string c.subject))
    ▸ column (codes "aud") (needed_member texts) (λ c. Some (array (text_items c.audience)))
    ▸ column (codes "exp") (needed_member time) (λ c. Some (second_data c.expires_at))
    ▸ column (codes "iat") (needed_member time) (λ c. Some (second_data c.issued_at))
    ▸ column (codes "auth_time") (λ name found. Ok (unneeded_member time found))
    (λ c. option_map second_data c.auth_time)
    ▸ column (codes "nonce") (optional_member text) (λ c. option_map string c.nonce)
    ▸ column (codes "acr") (λ name found. Ok (unneeded_member text found))
    (λ c. option_map string c.authentication_context_class)
    ▸ column (codes "amr") (λ name found. Ok (unneeded_member text_list found))
    (λ c. option_map (λ list. array (text_items list)) c.authentication_methods)
    ▸ column (codes "azp") (optional_member text) (λ c. option_map string c.authorized_party)
    ▸ column (codes "at_hash") (optional_member text) (λ c. option_map string c.access_token_hash)
    ▸ end

-- the names of the claims in that table
abbrev pub id_token_names : List (List ℕ)
id_token_names = names_of id_token_table

-- the object of the other claims: the members without a row in the table, and the claims whose
-- reading failed (`said_or_left`)
abbrev pub with_left : Option Data → Option Data → Option Data → Members → Data
with_left auth_time acr amr ms =
    object
    (put_some (codes "auth_time") auth_time (put_some (codes "acr") acr (put_some (codes "amr") amr ms)))

-- the claims and the object of the other claims, from what was read for each row
abbrev pub claims_with : Builder id_token_table (Members → WithOthers Claims)
claims_with i s a e t u n c m p h ms =
    with_others (claims i s a e t u.0 n c.0 m.0 p h) (with_left u.1 c.1 m.1 ms)

-- the claims from the members of the payload: if several are wrong, the first row is reported
abbrev pub claims_in : Members → Reading (WithOthers Claims)
claims_in ms = table_reading id_token_table (Ok claims_with) ms ⊛ Ok (others id_token_names ms)

-- the claims that are present, as the members of a JSON object
abbrev pub id_token_rows : Claims → List Row
id_token_rows c = rows_of id_token_table c

-- the claims from the JSON value of the payload, which has to be an object (RFC 7519, 4)
abbrev pub claims_reading : Data → Reading (WithOthers Claims)
claims_reading d = read_then (members_of_object d) claims_in

-- ---- the whole text

-- a reading, and then one that depends on its value; the first error is reported
abbrev pub token_then : {A B : Type 0} → TokenReading A → (A → TokenReading B) → TokenReading B
token_then (Ok a) f = f a
token_then (Err e) f = Err e

-- the bytes of a part; it is an error if the part is not base64url (RFC 7515, 2)
abbrev pub bytes_part : TokenPart → Option (List ℕ) → TokenReading (List ℕ)
bytes_part which None = Err (not_base64 which)
bytes_part which (Some bytes) = Ok bytes

-- a reading of the JSON of a part: a fault is reported with the part
abbrev pub of_part : {M : Type 0} → TokenPart → Reading M → TokenReading M
of_part which (Ok m) = Ok m
of_part which (Err fault) = Err (at_fault which fault)

-- a part that is one JSON value in base64url, and how that value is read
abbrev pub json_part : {M : Type 0} → (Data → Reading M) → TokenPart → List ℕ → TokenReading M
json_part reading which encoded =
    token_then (bytes_part which (bytes_of encoded))
    (λ bytes. of_part which (body_reading reading bytes))

-- the token from its three parts, its claims by this reading: if several parts are wrong, the first
-- is reported
abbrev pub parts_reading : {C : Type 0} → (Data → Reading C) → Option Parts
    → TokenReading (DecodedCompactToken C)
parts_reading reading None = Err not_three_parts
parts_reading reading (Some p) =
    token_then (json_part header_reading part.Header p.header) (λ h.
    token_then (json_part reading part.Payload p.payload) (λ c.
    token_then (bytes_part part.Signature (bytes_of p.signature)) (λ s.
    Ok (decoded_compact_token (signed_text p) h c s))))

-- the reading of a text that has at most this many bytes; it is an error if the text has more
abbrev pub within : {M : Type 0} → ℕ → List ℕ → TokenReading M → TokenReading M
within limit encoded reading = if nat_le (length encoded) limit then reading else Err too_long

-- the token that a text of at most this many bytes holds in compact form (RFC 7515, 7.1), its claims
-- by this reading, or why it holds none
abbrev pub text_reading : {C : Type 0} → (Data → Reading C) → ℕ → List ℕ
    → TokenReading (DecodedCompactToken C)
text_reading reading limit encoded =
    within limit encoded (parts_reading reading (three_parts encoded))

-- the greatest number of bytes of a token, if the caller names no other
abbrev pub usual_limit : ℕ
usual_limit = 65536

-- the ID token that a text in compact form holds, or why it holds none (RFC 7515, 7.1)
abbrev pub compact_token_reading : List ℕ → TokenReading DecodedToken
compact_token_reading encoded = text_reading claims_reading usual_limit encoded
