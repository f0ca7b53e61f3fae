-- No metadata without extra fields and no claims of an ID token hold a float.
use Rattle.std.proofs.Common.{◌≡◌, List, [], ◌∷◌, ◌++◌, Bool, false, Option, Some, None, option_map, codes, refl}
use Rattle.serde_json.specs.Data.{no_members, string, boolean}
use Rattle.serde_json.specs.Written.{has_float}
use Rattle.oauth2_json.specs.Puts.{Row}
use Rattle.oauth2_times.specs.Instants.{second_of}
use Rattle.oauth2_metadata.specs.Metadata.{metadata_rows, endpoint_rows, supported_rows, auth_method_rows, signing_algorithm_rows, page_rows, service_rows}
use Rattle.oauth2_metadata.specs.Metadata.{EndpointMembers, SupportedMembers, AuthMethodMembers, SigningAlgorithmMembers, PageMembers, ServiceMembers}
use Rattle.oauth2_openid.specs.Claims.{Claims}
use Rattle.oauth2_openid.specs.Reading.{id_token_rows}
use Rattle.oauth2_openid.specs.declared.access_token_hash.AccessTokenHash.{AccessTokenHash}
use Rattle.oauth2_commands.specs.IdToken.{claims_data, checked_data, hash_name}
use Rattle.oauth2_commands.specs.Metadata.{BasicMetadata, metadata_data}
use Rattle.oauth2_request_commands.proofs.NoFloats.{FreeOf, AreFree, put_all-no_float, texts_free, integers_free, seconds_free, items_free, lists_free}

AreFree-append : (rs more : List Row) → AreFree rs → AreFree more → AreFree (rs ++ more)
AreFree-append [] more h g = g
AreFree-append (r ∷ rs) more (h, hs) g = (h, AreFree-append rs more hs g)

flags_free : (o : Option Bool) → FreeOf (option_map boolean o)
flags_free None = tt
flags_free (Some b) = refl

endpoints_free : (m : EndpointMembers) → AreFree (endpoint_rows m)
unfolding endpoint_rows
endpoints_free m = (
  texts_free (λ u. u.text) m.authorization_endpoint,
  (
    texts_free (λ u. u.text) m.token_endpoint,
    (
      texts_free (λ u. u.text) m.device_authorization_endpoint,
      (texts_free (λ u. u.text) m.introspection_endpoint, (texts_free (λ u. u.text) m.revocation_endpoint, tt)),
    ),
  ),
)

supported_free : (m : SupportedMembers) → AreFree (supported_rows m)
unfolding supported_rows
supported_free m = (
  lists_free m.scopes_supported,
  (
    lists_free m.response_types_supported,
    (lists_free m.response_modes_supported, (lists_free m.grant_types_supported, (lists_free m.code_challenge_methods_supported, tt))),
  ),
)

auth_methods_free : (m : AuthMethodMembers) → AreFree (auth_method_rows m)
unfolding auth_method_rows
auth_methods_free m = (
  lists_free m.token_endpoint_auth_methods_supported,
  (lists_free m.introspection_endpoint_auth_methods_supported, (lists_free m.revocation_endpoint_auth_methods_supported, tt)),
)

signing_algorithms_free : (m : SigningAlgorithmMembers) → AreFree (signing_algorithm_rows m)
unfolding signing_algorithm_rows
signing_algorithms_free m = (
  lists_free m.token_endpoint_auth_signing_alg_values_supported,
  (lists_free m.introspection_endpoint_auth_signing_alg_values_supported, (lists_free m.revocation_endpoint_auth_signing_alg_values_supported, tt)),
)

pages_free : (m : PageMembers) → AreFree (page_rows m)
unfolding page_rows
pages_free m = (
  texts_free (λ s. s) m.service_documentation,
  (lists_free m.ui_locales_supported, (texts_free (λ s. s) m.op_policy_uri, (texts_free (λ s. s) m.op_tos_uri, tt))),
)

services_free : (m : ServiceMembers) → AreFree (service_rows m)
unfolding service_rows
services_free m = (
  texts_free (λ s. s) m.registration_endpoint,
  (
    texts_free (λ s. s) m.jwks_uri,
    (texts_free (λ s. s) m.signed_metadata, (flags_free m.authorization_response_iss_parameter_supported, tt)),
  ),
)

metadata_rows_free : (m : BasicMetadata) → AreFree (metadata_rows m)
unfolding metadata_rows
metadata_rows_free m =
    let signed = AreFree-append (signing_algorithm_rows m.signing_algorithms) (page_rows m.pages ++ service_rows m.services) (signing_algorithms_free m.signing_algorithms)
    (AreFree-append (page_rows m.pages) (service_rows m.services) (pages_free m.pages) (services_free m.services)) in
    let shown = AreFree-append (auth_method_rows m.auth_methods) (signing_algorithm_rows m.signing_algorithms ++ (page_rows m.pages ++ service_rows m.services))
    (auth_methods_free m.auth_methods) signed in
    let allowed = AreFree-append (supported_rows m.supported)
    (auth_method_rows m.auth_methods ++ (signing_algorithm_rows m.signing_algorithms ++ (page_rows m.pages ++ service_rows m.services)))
    (supported_free m.supported) shown in (
      refl,
      AreFree-append (endpoint_rows m.endpoints)
          (supported_rows m.supported ++ (auth_method_rows m.auth_methods ++ (signing_algorithm_rows m.signing_algorithms ++ (page_rows m.pages ++ service_rows m.services))))
          (endpoints_free m.endpoints) allowed,
    )

pub metadata_data-no_float : (m : BasicMetadata) → has_float (metadata_data m) ≡ false
unfolding metadata_data
metadata_data-no_float m = put_all-no_float (metadata_rows m) no_members (metadata_rows_free m) refl

claims_free : (c : Claims) → AreFree (id_token_rows c)
claims_free c = (
  refl,
  (
    refl,
    (
      items_free c.audience,
      (
        integers_free (second_of c.expires_at),
        (
          integers_free (second_of c.issued_at),
          (
            seconds_free c.auth_time,
            (
              texts_free (λ s. s) c.nonce,
              (
                texts_free (λ s. s) c.authentication_context_class,
                (lists_free c.authentication_methods, (texts_free (λ s. s) c.authorized_party, (texts_free (λ s. s) c.access_token_hash, tt))),
              ),
            ),
          ),
        ),
      ),
    ),
  ),
)

claims_data-no_float : (c : Claims) → has_float (claims_data c) ≡ false
unfolding claims_data
claims_data-no_float c = put_all-no_float (id_token_rows c) no_members (claims_free c) refl

pub checked_data-no_float : (hash : AccessTokenHash) (c : Claims) → has_float (checked_data hash c) ≡ false
unfolding checked_data
checked_data-no_float hash c =
    let rows : List Row = (codes "access_token_hash", Some (string (hash_name hash))) ∷ (codes "claims", Some (claims_data c)) ∷ [] in
    put_all-no_float rows no_members (refl, (claims_data-no_float c, tt)) refl
