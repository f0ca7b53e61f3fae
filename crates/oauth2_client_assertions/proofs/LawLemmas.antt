-- Each request of a client without a secret gets an assertion.
use Rattle.std.proofs.Common.{◌≡◌, ℕ, List, [], ◌++◌, Bool, true, false, ◌||◌, refl, sym, ap, ◌∙◌}
use Rattle.std.specs.Prelude.{Option, Some, None, codes, is_some, bytes_eq, ◌&&◌, ◌∷◌, not, length, nat_eq, ◌==◌, if◌then◌else◌}
use Rattle.std.specs.Cmp.Lexicographic.{pointwise}
use Rattle.std.specs.Option.{option_eq}
use Rattle.std.specs.Ordering.{on}
use Rattle.std.proofs.lemmas.Bool.{false≢true}
use Rattle.std.proofs.lemmas.List.Folds.{list_any-append}
use Rattle.http_header.specs.HeaderMap.{get}
use Rattle.http_uri.specs.declared.uri.Uri.{Uri}
use Rattle.http_uri.specs.ByteClasses.{lowercase}
use Rattle.http_uri.specs.Grammar.{path_of, query_of}
use Rattle.http_uri.specs.Uri.{Spells, uri_authority, uri_data, uri_eq, uri_eq_equiv, uri_path, uri_query, uri_scheme}
use Rattle.http_uri.proofs.Theorems.{Spells_unique}
use Rattle.oauth2_form.specs.Pairs.{Pair}
use Rattle.oauth2_wire.specs.declared.request.AuthType.{AuthType}
use Rattle.oauth2_wire.specs.declared.request.AuthType.TheVariants.{RequestBody, BasicAuth}
use Rattle.oauth2_wire.specs.Expected.{Configuration, authorization_header, basic_credentials, body_credentials, expected_basic, expected_headers, expected_pairs, headers_before, optional_pair}
use Rattle.oauth2_wire.specs.Request.{authorization_of, basic_of}
use Rattle.oauth2_client_assertions.specs.Assertions.{assertion_pairs}
use Rattle.oauth2_client_assertions.specs.Endpoints.{is_endpoint}
use Rattle.oauth2_client_assertions.specs.Laws.{EachRequestIsAsserted}
use Rattle.oauth2_client_assertions.specs.Requests.{has_credential, is_credential_name, is_form}

-- ---- a client without a secret sends no credential

no_basic : (auth_type : AuthType) (id : List ℕ) → basic_credentials auth_type id None ≡ None
no_basic RequestBody id = refl
no_basic BasicAuth id = refl

no_expected_basic : (c : Configuration) → c.client_secret ≡ None → expected_basic c ≡ None
no_expected_basic c no_secret = ap (basic_credentials c.auth_type c.client_id) no_secret ∙ no_basic c.auth_type c.client_id

headers_without : (c : Configuration) → c.client_secret ≡ None → expected_headers c ≡ headers_before []
headers_without c no_secret = ap (λ (pair : Option Pair). headers_before (authorization_header pair)) (no_expected_basic c no_secret)

no_scope : (scope : Option (List ℕ)) → has_credential (optional_pair (codes "scope") scope) ≡ false
no_scope None = refl
no_scope (Some text) = refl

no_redirect : (url : Option (List ℕ)) → has_credential (optional_pair (codes "redirect_uri") url) ≡ false
no_redirect None = refl
no_redirect (Some text) = refl

only_an_id : (c : Configuration) → c.client_secret ≡ None → has_credential (body_credentials (expected_basic c) c.client_id c.client_secret) ≡ false
only_an_id c no_secret =
    ap (λ pair. has_credential (body_credentials pair c.client_id c.client_secret)) (no_expected_basic c no_secret)
    ∙ ap (λ secret. has_credential (body_credentials None c.client_id secret)) no_secret

neither : (s t : Bool) → s ≡ false → t ≡ false → (s || t) ≡ false
neither s t one two = ap (λ x. x || t) one ∙ two

first_not : (s t : Bool) → (s || t) ≡ false → s ≡ false
first_not true t none = absurd (false≢true (sym none))
first_not false t none = refl

second_not : (s t : Bool) → (s || t) ≡ false → t ≡ false
second_not true t none = absurd (false≢true (sym none))
second_not false t none = none

abbrev has_one : Pair → Bool
has_one pair = is_credential_name pair.0

joined : (a b : List Pair) → has_credential a ≡ false → has_credential b ≡ false → has_credential (a ++ b) ≡ false
joined a b one two = list_any-append has_one a b ∙ neither _ _ one two

no_credential_sent : (c : Configuration) → c.client_secret ≡ None → has_credential (c.own_pairs ++ c.extra_params) ≡ false → has_credential (expected_pairs c) ≡ false
no_credential_sent c no_secret none =
    let either = sym (list_any-append has_one c.own_pairs c.extra_params) ∙ none in
    let scope = optional_pair (codes "scope") c.scope in
    let credentials = body_credentials (expected_basic c) c.client_id c.client_secret in
    let redirect = optional_pair (codes "redirect_uri") c.redirect_uri in
    let with_scope = joined c.own_pairs scope (first_not _ _ either) (no_scope c.scope) in
    let with_id = joined (c.own_pairs ++ scope) credentials with_scope (only_an_id c no_secret) in
    let with_redirect = joined (c.own_pairs ++ scope ++ credentials) redirect with_id (no_redirect c.redirect_uri) in
    joined (c.own_pairs ++ scope ++ credentials ++ redirect) c.extra_params with_redirect (second_not _ _ either)

-- ---- its target is that of the endpoint

-- whether these parts are equal to those of a target
abbrev parts_eq : Option (List ℕ) → Option (List ℕ) → List ℕ → Uri → Bool
parts_eq scheme authority kept v =
    option_eq (on lowercase (pointwise nat_eq)) scheme (uri_scheme v)
    && (option_eq (on lowercase (pointwise nat_eq)) authority (uri_authority v)
    && (pointwise nat_eq (if not (length kept == 0) || is_some scheme then path_of kept else []) (uri_path v)
    && option_eq (pointwise nat_eq) (query_of kept) (uri_query v)))

-- a target with the same parts is equal
same_parts : (u v : Uri) → uri_scheme u ≡ uri_scheme v → uri_authority u ≡ uri_authority v → uri_data u ≡ uri_data v → uri_eq u v ≡ uri_eq v v
same_parts u v scheme authority kept =
    ap (λ x. parts_eq x (uri_authority u) (uri_data u) v) scheme
    ∙ ap (λ x. parts_eq (uri_scheme v) x (uri_data u) v) authority
    ∙ ap (λ x. parts_eq (uri_scheme v) (uri_authority v) x v) kept

second : (s t : Bool) → t ≡ true → (s || t) ≡ true
second true t is = refl
second false t is = is

first : (s t : Bool) → s ≡ true → (s || t) ≡ true
first s t is = ap (λ b. b || t) is

pub is_one : (text : List ℕ) (before after : List Uri) (endpoint target : Uri) → Spells text endpoint → Spells text target
    → is_endpoint (before ++ endpoint ∷ after) target ≡ true
is_one text before after endpoint target named spelled =
    let same = Spells_unique text target endpoint spelled named in
    let equal : uri_eq target endpoint ≡ true = same_parts target endpoint same.0 same.1 same.2 ∙ uri_eq_equiv.refl endpoint in
    list_any-append (uri_eq target) before (endpoint ∷ after)
    ∙ second _ _ (first _ _ equal)

-- ---- so an assertion is added

pub asserted : EachRequestIsAsserted
asserted c text before after endpoint v sent kind assertion named request no_secret none extended =
    let headers = request.headers ∙ headers_without c no_secret in
    let no_header : authorization_of v ≡ None = ap (λ h. get h (codes "authorization")) headers in
    record {
      is_form_post =
          ap (λ m. bytes_eq m (codes "POST") && is_form (get v.headers (codes "content-type"))) request.method
          ∙ ap (λ h. is_form (get h (codes "content-type"))) headers;
      is_for_an_endpoint = is_one text before after endpoint v.target named request.target;
      does_not_authenticate =
          neither _ _ (ap is_some no_header) (ap has_credential request.form ∙ no_credential_sent c no_secret none);
      form = extended.form ∙ ap (λ pairs. pairs ++ assertion_pairs kind assertion) request.form;
      basic = ap basic_of extended.text ∙ request.basic ∙ no_expected_basic c no_secret;
    }
