-- What reading by name gives of the query and the body of a login.
use Rattle.std.proofs.Common.{◌≡◌, ℕ, List, [], ◌∷◌, ◌++◌, Option, None, Some, Bool, true, false, ◌&&◌, filter, codes, ap, ◌∙◌, sym, refl, inl, bytes_eq}
use Rattle.std.proofs.lemmas.Bool.{cond-false, not-true, false≢true}
use Rattle.std.proofs.lemmas.List.Elements.{filter-append}
use Rattle.std.proofs.lemmas.Slice.Eq.{bytes_eq-Decides}
use Rattle.std.specs.Prelude.{option_map}
use Rattle.url.specs.Parts.{Parts, serialize}
use Rattle.oauth2_types.specs.Pkce.{Challenge, sha256_challenge}
use Rattle.oauth2_urls.specs.Addressed.{Addressed}
use Rattle.oauth2_wire.specs.declared.request.AuthType.{AuthType}
use Rattle.oauth2_wire.specs.declared.request.AuthType.TheVariants.{BasicAuth, RequestBody}
use Rattle.oauth2_form.specs.Pairs.{Pair, form}
use Rattle.oauth2_wire.specs.ByName.{bears, sole, read_by_name, is_request_name, is_shared_name, is_own_name, avoid_own_names}
use Rattle.oauth2_wire.specs.Expected.{Configuration, expected_pairs}
use Rattle.oauth2_wire.specs.Request.{RequestView, IsRequestOf}
use Rattle.oauth2_wire.specs.Texts.{given_text}
use Rattle.oauth2_requests.specs.Authorization.{Authorization, query_pairs}
use Rattle.oauth2_requests.specs.Code.{code_pairs, code_configuration}
use Rattle.oauth2_form.specs.Query.{ExtendsQuery, query_form}
use Rattle.oauth2.specs.CodeFlow.{PassesCheck, flow_authorization, flow_exchange}
use Rattle.oauth2.specs.Settings.{Settings}

and_left : (a b : Bool) → (a && b) ≡ true → a ≡ true
and_left true b h = refl
and_left false b h = h

and_right : (a b : Bool) → (a && b) ≡ true → b ≡ true
and_right true b h = h
and_right false b h = absurd (false≢true h)

not_true : (b : Bool) → (b ≡ true → ⊥) → b ≡ false
not_true true h = absurd (h refl)
not_true false h = refl

-- a name that is none of the own names is another one than this
other_name : (own name : List ℕ) → is_own_name own ≡ true → is_own_name name ≡ false → bytes_eq name own ≡ false
other_name own name is_own avoids =
    not_true (bytes_eq name own) (λ e. false≢true (sym avoids ∙ ap is_own_name ((bytes_eq-Decides name own).0 e) ∙ is_own))

-- pairs that avoid the own names have none of this name
pub none_of : (own : List ℕ) (pairs : List Pair) → is_own_name own ≡ true → avoid_own_names pairs ≡ true → filter (bears own) pairs ≡ []
none_of own [] is_own avoid = refl
none_of own (pair ∷ pairs) is_own avoid =
    cond-false _ _ _ (other_name own pair.0 is_own (not-true _ (and_left _ _ avoid))) ∙ none_of own pairs is_own (and_right _ _ avoid)

-- behind such pairs an own name is read as if they were not there
pub read-behind : (own : List ℕ) (pairs more : List Pair) → is_own_name own ≡ true → avoid_own_names pairs ≡ true → read_by_name own (pairs ++ more) ≡ read_by_name own more
read-behind own pairs more is_own avoid =
    ap sole (filter-append (bears own) pairs more ∙ ap (λ x. x ++ filter (bears own) more) (none_of own pairs is_own avoid))

-- ---- what a login sends

abbrev login : Addressed → List ℕ → List ℕ → Challenge → Option Addressed → Authorization
login url id state challenge redirect = record {
  auth_url = url;
  client_id = id;
  state = state;
  response_type = codes "code";
  pkce_challenge = Some challenge;
  redirect_url = redirect;
  scopes = [];
  extra_params = [];
}

challenge-read : (url : Addressed) (id state : List ℕ) (challenge : Challenge) (redirect : Option Addressed) → read_by_name (codes "code_challenge") (query_pairs (login url id state challenge redirect)) ≡ Some challenge.text
challenge-read url id state challenge None = refl
challenge-read url id state challenge (Some redirect) = refl

method-read : (url : Addressed) (id state : List ℕ) (challenge : Challenge) (redirect : Option Addressed) → read_by_name (codes "code_challenge_method") (query_pairs (login url id state challenge redirect)) ≡ Some challenge.method
method-read url id state challenge None = refl
method-read url id state challenge (Some redirect) = refl

abbrev pub exchange : AuthType → List ℕ → Option (List ℕ) → List ℕ → List ℕ → Option (List ℕ) → Configuration
exchange auth_type id secret code verifier redirect = record {
  auth_type = auth_type;
  client_id = id;
  client_secret = secret;
  own_pairs = code_pairs code (Some verifier);
  scope = None;
  redirect_uri = redirect;
  extra_params = [];
}

pub verifier-read : (auth_type : AuthType) (id : List ℕ) (secret : Option (List ℕ)) (code verifier : List ℕ) (redirect : Option (List ℕ)) → read_by_name (codes "code_verifier") (expected_pairs (exchange auth_type id secret code verifier redirect)) ≡ Some verifier
verifier-read BasicAuth id None code verifier None = refl
verifier-read BasicAuth id None code verifier (Some redirect) = refl
verifier-read BasicAuth id (Some secret) code verifier None = refl
verifier-read BasicAuth id (Some secret) code verifier (Some redirect) = refl
verifier-read RequestBody id None code verifier None = refl
verifier-read RequestBody id None code verifier (Some redirect) = refl
verifier-read RequestBody id (Some secret) code verifier None = refl
verifier-read RequestBody id (Some secret) code verifier (Some redirect) = refl

-- ---- what a server reads of it

-- an own name is read of a query that was extended as of the pairs that were added
read-extended : (own : List ℕ) (old new : Parts) (pairs : List Pair) → is_own_name own ≡ true → avoid_own_names (query_form old) ≡ true → ExtendsQuery old new pairs → read_by_name own (query_form new) ≡ read_by_name own pairs
read-extended own old new pairs is_own avoid extends =
    ap (read_by_name own) extends.form ∙ read-behind own (query_form old) pairs is_own avoid

code_challenge-is_own : is_own_name (codes "code_challenge") ≡ true
unfolding is_request_name is_shared_name
code_challenge-is_own = refl

code_challenge_method-is_own : is_own_name (codes "code_challenge_method") ≡ true
unfolding is_request_name is_shared_name
code_challenge_method-is_own = refl

pub PassesCheck-of_flow : (client : Settings) (auth_url token_url : Addressed) (state verifier code : List ℕ) (url : Parts) (v : RequestView)
    → ExtendsQuery auth_url.url url (query_pairs (flow_authorization client auth_url state verifier))
    → IsRequestOf (code_configuration (flow_exchange client token_url verifier code)) (serialize token_url.url) v
    → avoid_own_names (query_form auth_url.url) ≡ true → PassesCheck verifier (query_form url) (form v.body)
PassesCheck-of_flow client auth_url token_url state verifier code url v extends is avoid =
    let read : (own : List ℕ) → is_own_name own ≡ true → read_by_name own (query_form url) ≡ read_by_name own (query_pairs (flow_authorization client auth_url state verifier))
    = λ own is_own. read-extended own auth_url.url url _ is_own avoid extends in (
      (sha256_challenge verifier).text,
      read _ code_challenge-is_own ∙ challenge-read auth_url client.client_id state (sha256_challenge verifier) client.redirect_url,
      read _ code_challenge_method-is_own ∙ method-read auth_url client.client_id state (sha256_challenge verifier) client.redirect_url,
      ap (read_by_name (codes "code_verifier")) is.form ∙ verifier-read client.auth_type client.client_id client.client_secret code verifier (option_map given_text client.redirect_url),
      inl (refl, refl),
    )
