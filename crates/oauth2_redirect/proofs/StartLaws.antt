-- What reading by name gives of a login's URL.
use Rattle.std.proofs.Common.{◌≡◌, ℕ, List, [], ◌∷◌, ◌++◌, Option, None, Some, true, filter, codes, ap, ◌∙◌, sym, refl, append_assoc}
use Rattle.std.specs.Prelude.{option_map}
use Rattle.oauth2_json.specs.Words.{joined_words}
use Rattle.std.proofs.lemmas.List.{append-nil}
use Rattle.std.proofs.lemmas.List.Elements.{filter-append}
use Rattle.url.specs.Parts.{Parts}
use Rattle.oauth2_types.specs.Pkce.{Challenge, sha256_challenge}
use Rattle.oauth2_form.specs.Pairs.{Pair}
use Rattle.oauth2_wire.specs.ByName.{bears, sole, read_by_name, is_request_name, is_shared_name, is_own_name, avoid_own_names}
use Rattle.oauth2_wire.specs.Expected.{optional_pair}
use Rattle.oauth2_wire.specs.Texts.{given_text}
use Rattle.oauth2_requests.specs.Authorization.{Authorization, challenge_pairs, scope_pairs, query_pairs}
use Rattle.oauth2_form.specs.Query.{ExtendsQuery, query_form}
use Rattle.oauth2.proofs.CodeFlowLaws.{none_of, read-behind}
use Rattle.oauth2_urls.specs.Addressed.{Addressed}
use Rattle.oauth2_redirect.specs.Redirect.{IssuerExpectation}
use Rattle.oauth2_redirect.specs.Login.{login_view_of}
use Rattle.oauth2_redirect.specs.Start.{ShowsLogin}

-- before such pairs an own name is read as if they were not there

read-before : (own : List ℕ) (front pairs : List Pair) → is_own_name own ≡ true → avoid_own_names pairs ≡ true → read_by_name own (front ++ pairs) ≡ read_by_name own front
read-before own front pairs is_own avoid =
    ap sole (filter-append (bears own) front pairs ∙ ap (λ x. filter (bears own) front ++ x) (none_of own pairs is_own avoid) ∙ append-nil (filter (bears own) front))

abbrev required : List ℕ → List ℕ → List ℕ → List Pair
required kind id state = (codes "response_type", kind) ∷ (codes "client_id", id) ∷ (codes "state", state) ∷ []

abbrev middle : Option Challenge → Option (List ℕ) → List ℕ → List Pair
middle challenge redirect scope = challenge_pairs challenge ++ optional_pair (codes "redirect_uri") redirect ++ scope_pairs scope

-- all that a login sends but its extra parameters
abbrev own_front : List ℕ → List ℕ → List ℕ → Option Challenge → Option (List ℕ) → List ℕ → List Pair
own_front kind id state challenge redirect scope = required kind id state ++ middle challenge redirect scope

state-read : (kind id state : List ℕ) (c : Challenge) (redirect : Option (List ℕ)) (scope : List ℕ) → read_by_name (codes "state") (own_front kind id state (Some c) redirect scope) ≡ Some state
state-read kind id state c None [] = refl
state-read kind id state c None (b ∷ bs) = refl
state-read kind id state c (Some redirect) [] = refl
state-read kind id state c (Some redirect) (b ∷ bs) = refl

challenge-read : (kind id state : List ℕ) (c : Challenge) (redirect : Option (List ℕ)) (scope : List ℕ) → read_by_name (codes "code_challenge") (own_front kind id state (Some c) redirect scope) ≡ Some c.text
challenge-read kind id state c None [] = refl
challenge-read kind id state c None (b ∷ bs) = refl
challenge-read kind id state c (Some redirect) [] = refl
challenge-read kind id state c (Some redirect) (b ∷ bs) = refl

method-read : (kind id state : List ℕ) (c : Challenge) (redirect : Option (List ℕ)) (scope : List ℕ) → read_by_name (codes "code_challenge_method") (own_front kind id state (Some c) redirect scope) ≡ Some c.method
method-read kind id state c None [] = refl
method-read kind id state c None (b ∷ bs) = refl
method-read kind id state c (Some redirect) [] = refl
method-read kind id state c (Some redirect) (b ∷ bs) = refl

redirect_uri-read : (kind id state : List ℕ) (c : Challenge) (redirect : Option (List ℕ)) (scope : List ℕ) → read_by_name (codes "redirect_uri") (own_front kind id state (Some c) redirect scope) ≡ redirect
redirect_uri-read kind id state c None [] = refl
redirect_uri-read kind id state c None (b ∷ bs) = refl
redirect_uri-read kind id state c (Some redirect) [] = refl
redirect_uri-read kind id state c (Some redirect) (b ∷ bs) = refl

state-is_own : is_own_name (codes "state") ≡ true
unfolding is_request_name is_shared_name
state-is_own = refl

challenge-is_own : is_own_name (codes "code_challenge") ≡ true
unfolding is_request_name is_shared_name
challenge-is_own = refl

method-is_own : is_own_name (codes "code_challenge_method") ≡ true
unfolding is_request_name is_shared_name
method-is_own = refl

redirect_uri-is_own : is_own_name (codes "redirect_uri") ≡ true
unfolding is_request_name is_shared_name
redirect_uri-is_own = refl

pub shows : (old new : Parts) (r : Authorization) (verifier : List ℕ) (uri : Addressed) (issuer : IssuerExpectation) (token_url : List ℕ) → ExtendsQuery old new (query_pairs r) → r.pkce_challenge ≡ Some (sha256_challenge verifier) → r.redirect_url ≡ Some uri
    → avoid_own_names (query_form old) ≡ true → avoid_own_names r.extra_params ≡ true → ShowsLogin (login_view_of r.state verifier uri issuer r.client_id token_url) (query_form new)
shows old new r verifier uri issuer token_url extends is there avoid extra =
    let redirect = option_map given_text r.redirect_url in
    let scope = joined_words r.scopes in
    let first = required r.response_type r.client_id r.state in
    let c = sha256_challenge verifier in
    let read : (own : List ℕ) → is_own_name own ≡ true → read_by_name own (query_form new) ≡ read_by_name own (own_front r.response_type r.client_id r.state (Some c) redirect scope)
    = λ own is_own. ap (read_by_name own) extends.form
    ∙ read-behind own (query_form old) (query_pairs r) is_own avoid
    ∙ ap (read_by_name own) (sym (append_assoc first (middle r.pkce_challenge redirect scope) r.extra_params))
    ∙ read-before own (own_front r.response_type r.client_id r.state r.pkce_challenge redirect scope) r.extra_params is_own extra
    ∙ ap (λ (k : Option Challenge). read_by_name own (own_front r.response_type r.client_id r.state k redirect scope)) is in (
      read _ state-is_own ∙ state-read r.response_type r.client_id r.state c redirect scope,
      read _ challenge-is_own ∙ challenge-read r.response_type r.client_id r.state c redirect scope,
      read _ method-is_own ∙ method-read r.response_type r.client_id r.state c redirect scope,
      read _ redirect_uri-is_own ∙ redirect_uri-read r.response_type r.client_id r.state c redirect scope ∙ ap (option_map given_text) there,
    )
