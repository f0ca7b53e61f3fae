-- What the response to an exchange has beside the members of every token response (RFC 8693, 2.2.1).
use Rattle.std.specs.Prelude.{ℕ, List, codes, string_bytes, Ok}
use Rattle.serde_json.specs.Data.{Data, Members, no_members, string, object, put}
use Rattle.serde_json.specs.Find.{get_member}
use Rattle.oauth2_json.specs.Members.{members_of_object, needed_member}
use Rattle.oauth2_json.specs.Reading.{Reading, read_then}
use Rattle.oauth2_json.specs.Values.{text}
use Rattle.oauth2_json.specs.Writing.{Writing}
use Rattle.oauth2_grants.specs.declared.exchange_fields.ExchangeFields.{ExchangeFields}

-- the type of the token that was issued (`issued_token_type`), as bytes
abbrev pub issued_type_of : ExchangeFields → List ℕ
issued_type_of fields = string_bytes fields.issued

-- reads `issued_token_type`, which a server has to send, as a text
abbrev pub exchange_fields_reading : Data → Reading (List ℕ)
exchange_fields_reading d =
    read_then (members_of_object d)
    (λ ms. needed_member text (codes "issued_token_type") (get_member (codes "issued_token_type") ms))

-- the one member that is written
abbrev pub exchange_fields : List ℕ → Members
exchange_fields issued = put (codes "issued_token_type") (string issued) no_members

-- writes an object with that member
abbrev pub exchange_fields_writing : List ℕ → Writing
exchange_fields_writing issued = Ok (object (exchange_fields issued))
