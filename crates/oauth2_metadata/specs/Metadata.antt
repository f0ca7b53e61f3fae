-- The metadata of an authorization server (RFC 8414, 2; RFC 8628, 4; RFC 9207, 3).
use Rattle.std.specs.Prelude.{ℕ, List, ◌∷◌, ◌++◌, Bool, Option, Some, Ok, codes, option_map}
use Rattle.serde_json.specs.Data.{Data, Members, boolean, string, object}
use Rattle.serde_json.specs.Find.{get_member}
use Rattle.oauth2_urls.specs.Addressed.{Addressed}
use Rattle.oauth2_json.specs.Reading.{Reading, read_then, ◌⊛◌}
use Rattle.oauth2_json.specs.Writing.{Writing, write_then}
use Rattle.oauth2_json.specs.Members.{members_of_object, needed_member, optional_member, others, beside}
use Rattle.oauth2_json.specs.Values.{text, flag, url, text_list}
use Rattle.oauth2_json.specs.Puts.{Row, put_all}
use Rattle.oauth2_body_members.specs.Table.{Column, Table, column, ◌▸◌, end, names_of, table_reading, rows_of}
use Rattle.oauth2_metadata.specs.Kinds.{list_data, address_data}

-- ---- the kinds of members, each of which may be absent or null

-- a URL
abbrev pub url_column : {R : Type 0} → List ℕ → (R → Option Addressed) → Column R
url_column name value = column name (optional_member url) (λ r. option_map address_data (value r))

-- an array of strings
abbrev pub list_column : {R : Type 0} → List ℕ → (R → Option (List (List ℕ))) → Column R
list_column name value =
    column name (optional_member text_list) (λ r. option_map list_data (value r))

-- a text
abbrev pub text_column : {R : Type 0} → List ℕ → (R → Option (List ℕ)) → Column R
text_column name value = column name (optional_member text) (λ r. option_map string (value r))

-- true or false
abbrev pub flag_column : {R : Type 0} → List ℕ → (R → Option Bool) → Column R
flag_column name value = column name (optional_member flag) (λ r. option_map boolean (value r))

-- ---- the groups of members: for each its record, and its table

-- the endpoints that this client calls (RFC 8414, 2; RFC 8628, 4)
pub record EndpointMembers : Type 0 where
  pub authorization_endpoint : Option Addressed
  pub token_endpoint : Option Addressed
  pub device_authorization_endpoint : Option Addressed
  pub introspection_endpoint : Option Addressed
  pub revocation_endpoint : Option Addressed

-- the group with these members, in the order of `endpoint_table`
abbrev pub endpoint_group : Option Addressed → Option Addressed → Option Addressed
    → Option Addressed → Option Addressed → EndpointMembers
endpoint_group a b c d e = record {
  authorization_endpoint = a;
  token_endpoint = b;
  device_authorization_endpoint = c;
  introspection_endpoint = d;
  revocation_endpoint = e;
}

-- the members of this group: how each is read and written
abbrev pub endpoint_table : Table EndpointMembers
endpoint_table =
    url_column (codes "authorization_endpoint") (λ m. m.authorization_endpoint)
    ▸ url_column (codes "token_endpoint") (λ m. m.token_endpoint)
    ▸ url_column (codes "device_authorization_endpoint") (λ m. m.device_authorization_endpoint)
    ▸ url_column (codes "introspection_endpoint") (λ m. m.introspection_endpoint)
    ▸ url_column (codes "revocation_endpoint") (λ m. m.revocation_endpoint)
    ▸ end

-- the group, read from the members of a JSON object
unfoldable pub endpoint_in : Members → Reading EndpointMembers
endpoint_in ms = table_reading endpoint_table (Ok endpoint_group) ms

-- the members that the group is written as
unfoldable pub endpoint_rows : EndpointMembers → List Row
endpoint_rows m = rows_of endpoint_table m

-- the scopes, response types and modes, grant types and PKCE methods that the server supports (RFC
-- 8414, 2)
pub record SupportedMembers : Type 0 where
  pub scopes_supported : Option (List (List ℕ))
  pub response_types_supported : Option (List (List ℕ))
  pub response_modes_supported : Option (List (List ℕ))
  pub grant_types_supported : Option (List (List ℕ))
  pub code_challenge_methods_supported : Option (List (List ℕ))

-- the group with these members, in the order of `supported_table`
abbrev pub supported_group : Option (List (List ℕ)) → Option (List (List ℕ))
    → Option (List (List ℕ)) → Option (List (List ℕ)) → Option (List (List ℕ)) → SupportedMembers
supported_group a b c d e = record {
  scopes_supported = a;
  response_types_supported = b;
  response_modes_supported = c;
  grant_types_supported = d;
  code_challenge_methods_supported = e;
}

-- the members of this group: how each is read and written
abbrev pub supported_table : Table SupportedMembers
supported_table =
    list_column (codes "scopes_supported") (λ m. m.scopes_supported)
    ▸ list_column (codes "response_types_supported") (λ m. m.response_types_supported)
    ▸ list_column (codes "response_modes_supported") (λ m. m.response_modes_supported)
    ▸ list_column (codes "grant_types_supported") (λ m. m.grant_types_supported)
    ▸ list_column (codes "code_challenge_methods_supported")
    (λ m. m.code_challenge_methods_supported)
    ▸ end

-- the group, read from the members of a JSON object
unfoldable pub supported_in : Members → Reading SupportedMembers
supported_in ms = table_reading supported_table (Ok supported_group) ms

-- the members that the group is written as
unfoldable pub supported_rows : SupportedMembers → List Row
supported_rows m = rows_of supported_table m

-- the client authentication methods that each endpoint supports (RFC 8414, 2)
pub record AuthMethodMembers : Type 0 where
  pub token_endpoint_auth_methods_supported : Option (List (List ℕ))
  pub introspection_endpoint_auth_methods_supported : Option (List (List ℕ))
  pub revocation_endpoint_auth_methods_supported : Option (List (List ℕ))

-- the group with these members, in the order of `auth_method_table`
abbrev pub auth_method_group : Option (List (List ℕ)) → Option (List (List ℕ))
    → Option (List (List ℕ)) → AuthMethodMembers
auth_method_group a b c = record {
  token_endpoint_auth_methods_supported = a;
  introspection_endpoint_auth_methods_supported = b;
  revocation_endpoint_auth_methods_supported = c;
}

-- the members of this group: how each is read and written
abbrev pub auth_method_table : Table AuthMethodMembers
auth_method_table =
    list_column (codes "token_endpoint_auth_methods_supported")
    (λ m. m.token_endpoint_auth_methods_supported)
    ▸ list_column (codes "introspection_endpoint_auth_methods_supported")
    (λ m. m.introspection_endpoint_auth_methods_supported)
    ▸ list_column (codes "revocation_endpoint_auth_methods_supported")
    (λ m. m.revocation_endpoint_auth_methods_supported)
    ▸ end

-- the group, read from the members of a JSON object
unfoldable pub auth_method_in : Members → Reading AuthMethodMembers
auth_method_in ms = table_reading auth_method_table (Ok auth_method_group) ms

-- the members that the group is written as
unfoldable pub auth_method_rows : AuthMethodMembers → List Row
auth_method_rows m = rows_of auth_method_table m

-- the algorithms for the JWT of a client's authentication that each endpoint supports (RFC 8414, 2)
pub record SigningAlgorithmMembers : Type 0 where
  pub token_endpoint_auth_signing_alg_values_supported : Option (List (List ℕ))
  pub introspection_endpoint_auth_signing_alg_values_supported : Option (List (List ℕ))
  pub revocation_endpoint_auth_signing_alg_values_supported : Option (List (List ℕ))

-- the group with these members, in the order of `signing_algorithm_table`
abbrev pub signing_algorithm_group : Option (List (List ℕ)) → Option (List (List ℕ))
    → Option (List (List ℕ)) → SigningAlgorithmMembers
signing_algorithm_group a b c = record {
  token_endpoint_auth_signing_alg_values_supported = a;
  introspection_endpoint_auth_signing_alg_values_supported = b;
  revocation_endpoint_auth_signing_alg_values_supported = c;
}

-- the members of this group: how each is read and written
abbrev pub signing_algorithm_table : Table SigningAlgorithmMembers
signing_algorithm_table =
    list_column (codes "token_endpoint_auth_signing_alg_values_supported")
    (λ m. m.token_endpoint_auth_signing_alg_values_supported)
    ▸ list_column (codes "introspection_endpoint_auth_signing_alg_values_supported")
    (λ m. m.introspection_endpoint_auth_signing_alg_values_supported)
    ▸ list_column (codes "revocation_endpoint_auth_signing_alg_values_supported")
    (λ m. m.revocation_endpoint_auth_signing_alg_values_supported)
    ▸ end

-- the group, read from the members of a JSON object
unfoldable pub signing_algorithm_in : Members → Reading SigningAlgorithmMembers
signing_algorithm_in ms = table_reading signing_algorithm_table (Ok signing_algorithm_group) ms

-- the members that the group is written as
unfoldable pub signing_algorithm_rows : SigningAlgorithmMembers → List Row
signing_algorithm_rows m = rows_of signing_algorithm_table m

-- the URLs of pages for developers and users, and the languages of the user interface (RFC 8414, 2)
pub record PageMembers : Type 0 where
  pub service_documentation : Option (List ℕ)
  pub ui_locales_supported : Option (List (List ℕ))
  pub op_policy_uri : Option (List ℕ)
  pub op_tos_uri : Option (List ℕ)

-- the group with these members, in the order of `page_table`
abbrev pub page_group : Option (List ℕ) → Option (List (List ℕ)) → Option (List ℕ) → Option (List ℕ)
    → PageMembers
page_group a b c d = record {
  service_documentation = a;
  ui_locales_supported = b;
  op_policy_uri = c;
  op_tos_uri = d;
}

-- the members of this group: how each is read and written
abbrev pub page_table : Table PageMembers
page_table =
    text_column (codes "service_documentation") (λ m. m.service_documentation)
    ▸ list_column (codes "ui_locales_supported") (λ m. m.ui_locales_supported)
    ▸ text_column (codes "op_policy_uri") (λ m. m.op_policy_uri)
    ▸ text_column (codes "op_tos_uri") (λ m. m.op_tos_uri)
    ▸ end

-- the group, read from the members of a JSON object
unfoldable pub page_in : Members → Reading PageMembers
page_in ms = table_reading page_table (Ok page_group) ms

-- the members that the group is written as
unfoldable pub page_rows : PageMembers → List Row
page_rows m = rows_of page_table m

-- the URLs of the client registration and of the server's keys, the metadata as a signed JWT (RFC
-- 8414, 2 and 2.1), and whether the server's redirects have `iss` (RFC 9207, 3)
pub record ServiceMembers : Type 0 where
  pub registration_endpoint : Option (List ℕ)
  pub jwks_uri : Option (List ℕ)
  pub signed_metadata : Option (List ℕ)
  pub authorization_response_iss_parameter_supported : Option Bool

-- the group with these members, in the order of `service_table`
abbrev pub service_group : Option (List ℕ) → Option (List ℕ) → Option (List ℕ) → Option Bool
    → ServiceMembers
service_group a b c d = record {
  registration_endpoint = a;
  jwks_uri = b;
  signed_metadata = c;
  authorization_response_iss_parameter_supported = d;
}

-- the members of this group: how each is read and written
abbrev pub service_table : Table ServiceMembers
service_table =
    text_column (codes "registration_endpoint") (λ m. m.registration_endpoint)
    ▸ text_column (codes "jwks_uri") (λ m. m.jwks_uri)
    ▸ text_column (codes "signed_metadata") (λ m. m.signed_metadata)
    ▸ flag_column (codes "authorization_response_iss_parameter_supported")
    (λ m. m.authorization_response_iss_parameter_supported)
    ▸ end

-- the group, read from the members of a JSON object
unfoldable pub service_in : Members → Reading ServiceMembers
service_in ms = table_reading service_table (Ok service_group) ms

-- the members that the group is written as
unfoldable pub service_rows : ServiceMembers → List Row
service_rows m = rows_of service_table m

-- ---- the whole document

-- the metadata of an authorization server, with extra fields of type `E`
pub record Metadata (E : Type 0) : Type 0 where
  pub issuer : List ℕ
  pub endpoints : EndpointMembers
  pub supported : SupportedMembers
  pub auth_methods : AuthMethodMembers
  pub signing_algorithms : SigningAlgorithmMembers
  pub pages : PageMembers
  pub services : ServiceMembers
  pub extra_fields : E

-- the metadata with these parts
abbrev pub metadata : {E : Type 0} → List ℕ → EndpointMembers → SupportedMembers → AuthMethodMembers
    → SigningAlgorithmMembers → PageMembers → ServiceMembers → E → Metadata E
metadata i e s a g p v x = record {
  issuer = i;
  endpoints = e;
  supported = s;
  auth_methods = a;
  signing_algorithms = g;
  pages = p;
  services = v;
  extra_fields = x;
}

-- the metadata with `f` applied to its extra fields
abbrev pub metadata_seen : {E F : Type 0} → (E → F) → Metadata E → Metadata F
metadata_seen f m =
    metadata m.issuer m.endpoints m.supported m.auth_methods m.signing_algorithms m.pages m.services
    (f m.extra_fields)

-- the names of all members that are not extra fields
unfoldable pub metadata_names : List (List ℕ)
metadata_names =
    codes "issuer"
    ∷ (names_of endpoint_table
    ++ (names_of supported_table
    ++ (names_of auth_method_table
    ++ (names_of signing_algorithm_table
    ++ (names_of page_table
    ++ names_of service_table)))))

-- the metadata, read from the members of its JSON object; only `issuer` is required
abbrev pub metadata_in : {E : Type 0} → (Data → Reading E) → Members → Reading (Metadata E)
metadata_in extra_fields ms =
    Ok metadata
    ⊛ needed_member text (codes "issuer") (get_member (codes "issuer") ms)
    ⊛ endpoint_in ms
    ⊛ supported_in ms
    ⊛ auth_method_in ms
    ⊛ signing_algorithm_in ms
    ⊛ page_in ms
    ⊛ service_in ms
    ⊛ extra_fields (object (others metadata_names ms))

-- the metadata, read from a JSON value, which must be an object
abbrev pub metadata_reading : {E : Type 0} → (Data → Reading E) → Data → Reading (Metadata E)
metadata_reading extra_fields d = read_then (members_of_object d) (metadata_in extra_fields)

-- the members that the metadata is written as, without those of its extra fields
unfoldable pub metadata_rows : {E : Type 0} → Metadata E → List Row
metadata_rows m =
    (codes "issuer", Some (string m.issuer))
    ∷ (endpoint_rows m.endpoints
    ++ (supported_rows m.supported
    ++ (auth_method_rows m.auth_methods
    ++ (signing_algorithm_rows m.signing_algorithms
    ++ (page_rows m.pages
    ++ (service_rows m.services))))))

-- the JSON object that the metadata is written as, with the members of its extra fields
abbrev pub metadata_writing : {E : Type 0} → (E → Writing) → Metadata E → Writing
metadata_writing extra_fields m =
    write_then (extra_fields m.extra_fields) (λ x.
    write_then (beside metadata_names x) (λ ms.
    Ok (object (put_all (metadata_rows m) ms))))
