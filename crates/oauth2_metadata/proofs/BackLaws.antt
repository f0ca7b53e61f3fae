-- Metadata reads back.
use Rattle.std.proofs.Common.{◌≡◌, false, true, Some, Ok, codes, refl, sym, ap, ◌∙◌}
use Rattle.serde_json.specs.Data.{Data, Members, string, object}
use Rattle.serde_json.specs.Find.{get_member}
use Rattle.oauth2_json.specs.Reading.{Reading, ◌⊛◌}
use Rattle.oauth2_json.specs.Writing.{Writing, write_then}
use Rattle.oauth2_json.specs.Members.{needed_member, others, clashes, beside}
use Rattle.oauth2_json.specs.Values.{text}
use Rattle.oauth2_json.specs.Puts.{names, put_all}
use Rattle.oauth2_json.proofs.Puts.{rest, are_distinct}
use Rattle.oauth2_json.proofs.Objects.{beside_taken, optional-text}
use Rattle.oauth2_replies.specs.Kept.{AreFieldsKept}
use Rattle.oauth2_body_members.proofs.Tables.{Holds, held_parts, all_held, read_held}
use Rattle.oauth2_metadata.specs.Metadata.{Metadata, metadata, metadata_seen, metadata_names, metadata_rows, metadata_in, metadata_reading, metadata_writing, EndpointMembers, endpoint_group, endpoint_table, endpoint_in, endpoint_rows, SupportedMembers, supported_group, supported_table, supported_in, supported_rows, AuthMethodMembers, auth_method_group, auth_method_table, auth_method_in, auth_method_rows, SigningAlgorithmMembers, signing_algorithm_group, signing_algorithm_table, signing_algorithm_in, signing_algorithm_rows, PageMembers, page_group, page_table, page_in, page_rows, ServiceMembers, service_group, service_table, service_in, service_rows}
use Rattle.oauth2_metadata.specs.private.Kept.{AreAddresses}
use Rattle.oauth2_metadata.proofs.Addresses.{optional-address}
use Rattle.oauth2_metadata.proofs.TextLists.{optional-list, optional-flag}

-- ---- what was put in is found again

distinct : {E : Type 0} (m : Metadata E) → are_distinct (names (metadata_rows m)) ≡ true
unfolding metadata_rows endpoint_rows supported_rows auth_method_rows signing_algorithm_rows page_rows service_rows
distinct m = refl

same_names : {E : Type 0} (m : Metadata E) → names (metadata_rows m) ≡ metadata_names
unfolding metadata_names metadata_rows endpoint_rows supported_rows auth_method_rows signing_algorithm_rows page_rows service_rows
same_names m = refl

left : {E : Type 0} (m : Metadata E) (ms : Members) → clashes metadata_names ms ≡ false → others metadata_names (put_all (metadata_rows m) ms) ≡ ms
left m ms free = ap (λ own. others own (put_all (metadata_rows m) ms)) (sym (same_names m)) ∙ rest (metadata_rows m) ms (distinct m) (ap (λ own. clashes own ms) (same_names m) ∙ free)

-- each group's members stand among all
record GroupsHold {E : Type 0} (m : Metadata E) (ms : Members) : Type 0 where
  issuer : get_member (codes "issuer") ms ≡ Some (string m.issuer)
  endpoints : Holds (endpoint_rows m.endpoints) ms
  supported : Holds (supported_rows m.supported) ms
  auth_methods : Holds (auth_method_rows m.auth_methods) ms
  signing_algorithms : Holds (signing_algorithm_rows m.signing_algorithms) ms
  pages : Holds (page_rows m.pages) ms
  services : Holds (service_rows m.services) ms

groups_held : {E : Type 0} (m : Metadata E) (ms : Members) → Holds (metadata_rows m) ms → GroupsHold m ms
unfolding metadata_rows
groups_held m ms held =
    let a = held_parts (endpoint_rows m.endpoints) _ ms held.1 in
    let b = held_parts (supported_rows m.supported) _ ms a.1 in
    let c = held_parts (auth_method_rows m.auth_methods) _ ms b.1 in
    let d = held_parts (signing_algorithm_rows m.signing_algorithms) _ ms c.1 in
    let e = held_parts (page_rows m.pages) _ ms d.1 in
    record { issuer = held.0; endpoints = a.0; supported = b.0; auth_methods = c.0; signing_algorithms = d.0; pages = e.0; services = e.1 }

endpoints_again : (m : EndpointMembers) (ms : Members) → Holds (endpoint_rows m) ms → AreAddresses m → endpoint_in ms ≡ Ok m
unfolding endpoint_in endpoint_rows
endpoints_again m ms held addresses =
    read_held endpoint_table endpoint_group m (m.authorization_endpoint, (m.token_endpoint, (m.device_authorization_endpoint, (m.introspection_endpoint, (m.revocation_endpoint, tt))))) ms held
    (optional-address _ m.authorization_endpoint addresses.0, (optional-address _ m.token_endpoint addresses.1, (optional-address _ m.device_authorization_endpoint addresses.2, (optional-address _ m.introspection_endpoint addresses.3, (optional-address _ m.revocation_endpoint addresses.4, tt)))))

supported_again : (m : SupportedMembers) (ms : Members) → Holds (supported_rows m) ms → supported_in ms ≡ Ok m
unfolding supported_in supported_rows
supported_again m ms held =
    read_held supported_table supported_group m (m.scopes_supported, (m.response_types_supported, (m.response_modes_supported, (m.grant_types_supported, (m.code_challenge_methods_supported, tt))))) ms held
    (optional-list _ m.scopes_supported, (optional-list _ m.response_types_supported, (optional-list _ m.response_modes_supported, (optional-list _ m.grant_types_supported, (optional-list _ m.code_challenge_methods_supported, tt)))))

auth_methods_again : (m : AuthMethodMembers) (ms : Members) → Holds (auth_method_rows m) ms → auth_method_in ms ≡ Ok m
unfolding auth_method_in auth_method_rows
auth_methods_again m ms held =
    read_held auth_method_table auth_method_group m (m.token_endpoint_auth_methods_supported, (m.introspection_endpoint_auth_methods_supported, (m.revocation_endpoint_auth_methods_supported, tt))) ms held
    (optional-list _ m.token_endpoint_auth_methods_supported, (optional-list _ m.introspection_endpoint_auth_methods_supported, (optional-list _ m.revocation_endpoint_auth_methods_supported, tt)))

signing_algorithms_again : (m : SigningAlgorithmMembers) (ms : Members) → Holds (signing_algorithm_rows m) ms → signing_algorithm_in ms ≡ Ok m
unfolding signing_algorithm_in signing_algorithm_rows
signing_algorithms_again m ms held =
    read_held signing_algorithm_table signing_algorithm_group m (m.token_endpoint_auth_signing_alg_values_supported, (m.introspection_endpoint_auth_signing_alg_values_supported, (m.revocation_endpoint_auth_signing_alg_values_supported, tt))) ms held
    (optional-list _ m.token_endpoint_auth_signing_alg_values_supported, (optional-list _ m.introspection_endpoint_auth_signing_alg_values_supported, (optional-list _ m.revocation_endpoint_auth_signing_alg_values_supported, tt)))

pages_again : (m : PageMembers) (ms : Members) → Holds (page_rows m) ms → page_in ms ≡ Ok m
unfolding page_in page_rows
pages_again m ms held =
    read_held page_table page_group m (m.service_documentation, (m.ui_locales_supported, (m.op_policy_uri, (m.op_tos_uri, tt)))) ms held
    (optional-text _ m.service_documentation, (optional-list _ m.ui_locales_supported, (optional-text _ m.op_policy_uri, (optional-text _ m.op_tos_uri, tt))))

services_again : (m : ServiceMembers) (ms : Members) → Holds (service_rows m) ms → service_in ms ≡ Ok m
unfolding service_in service_rows
services_again m ms held =
    read_held service_table service_group m (m.registration_endpoint, (m.jwks_uri, (m.signed_metadata, (m.authorization_response_iss_parameter_supported, tt)))) ms held
    (optional-text _ m.registration_endpoint, (optional-text _ m.jwks_uri, (optional-text _ m.signed_metadata, (optional-flag _ m.authorization_response_iss_parameter_supported, tt))))

metadata_again : {E : Type 0} (er : Data → Reading E) (m : Metadata E) (ms : Members) → clashes metadata_names ms ≡ false → AreAddresses m.endpoints → er (object ms) ≡ Ok m.extra_fields
    → metadata_in er (put_all (metadata_rows m) ms) ≡ Ok m
metadata_again er m ms free addresses again =
    let all = put_all (metadata_rows m) ms in
    let held = groups_held m all (all_held (metadata_rows m) ms (distinct m) (ap (λ own. clashes own ms) (same_names m) ∙ free)) in
    λ i.
    Ok metadata
    ⊛ (ap (needed_member text (codes "issuer")) held.issuer) i
    ⊛ endpoints_again m.endpoints all held.endpoints addresses i
    ⊛ supported_again m.supported all held.supported i
    ⊛ auth_methods_again m.auth_methods all held.auth_methods i
    ⊛ signing_algorithms_again m.signing_algorithms all held.signing_algorithms i
    ⊛ pages_again m.pages all held.pages i
    ⊛ services_again m.services all held.services i
    ⊛ (ap (λ left_over. er (object left_over)) (left m ms free) ∙ again) i

pub metadata_back : {E F : Type 0} (er : Data → Reading F) (em : E → F) (ew : E → Writing) (m : Metadata E) → AreAddresses m.endpoints → (d : Data)
    → metadata_writing ew m ≡ Ok d → AreFieldsKept er em ew m.extra_fields → metadata_reading er d ≡ Ok (metadata_seen em m)
unfolding metadata_rows
metadata_back er em ew m addresses d h x =
    let written : write_then (beside metadata_names (object x.members)) (λ ms. Ok (object (put_all (metadata_rows m) ms))) ≡ Ok d = rw x.written at h in
    let taken = beside_taken metadata_names x.members (λ ms. object (put_all (metadata_rows m) ms)) d written in
    rw (← taken.1) (metadata_again er (metadata_seen em m) x.members taken.0 addresses x.back)
