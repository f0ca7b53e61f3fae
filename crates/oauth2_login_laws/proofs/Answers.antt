-- What a redirect that has a code for a login says.
use Rattle.std.proofs.Common.{◌≡◌, ◌≢◌, ℕ, List, [], ◌∷◌, Bool, true, false, cond, Option, Some, None, option_map, Result, Ok, Err, codes, bytes_eq, IsTrue, refl, ap, sym, ◌∙◌}
use Rattle.sha2.specs.Sha256.{sha256}
use Rattle.url.specs.Parts.{Parts, serialize}
use Rattle.oauth2_types.specs.Digest.{digest_eq}
use Rattle.oauth2_urls.specs.Addressed.{Addressed}
use Rattle.oauth2_codes.specs.ErrorResponse.{ErrorParts}
use Rattle.oauth2_codes.specs.AuthorizationCodes.{AuthorizationErrorCode}
use Rattle.oauth2_form.specs.Pairs.{Pair}
use Rattle.oauth2.specs.Settings.{Settings}
use Rattle.oauth2_redirect.specs.declared.login_refusal.LoginMismatch.{LoginMismatch}
use Rattle.oauth2_redirect.specs.declared.login_refusal.LoginMismatch.TheVariants.{OtherClient, OtherTokenEndpoint, OtherRedirectUri}
use Rattle.oauth2_redirect.specs.Bound.{is_client_of, is_endpoint_of, is_token_url, mismatch}
use Rattle.oauth2_redirect.specs.Login.{LoginView}
use Rattle.oauth2_redirect.specs.Place.{is_at_redirect_uri}
use Rattle.oauth2_redirect.specs.Query.{first_text, sole_text, texts}
use Rattle.oauth2_redirect.specs.Redirect.{RedirectErrorView, other_state, other_issuer, answer, code_told, error_told, error_parts, is_issuer, is_state, unless_error}
use Rattle.oauth2_login_laws.specs.Event.{Arrival, arrival_key, key}
use Rattle.oauth2_login_laws.specs.Laws.{IsAnswerTo, EachAnswerIsTaken}
use Rattle.oauth2_login_laws.proofs.Keys.{same_is, same_self, some_is}

-- ---- the login's client, endpoint and redirect URI

found : (b : Bool) (x : Option LoginMismatch) (m : LoginMismatch) → cond b x (Some m) ≡ None → (b ≡ true) × (x ≡ None)
found true x m is = (refl, is)
found false x m is = cc

pub bound_to : (client : Settings) (login : LoginView) (called : Parts) → mismatch client login called ≡ None → (is_client_of client login ≡ true) × (is_endpoint_of client login ≡ true) × (is_at_redirect_uri login.redirect_uri.url called ≡ true)
bound_to client login called is =
    let first = found (is_client_of client login) _ OtherClient is in
    let second = found (is_endpoint_of client login) _ OtherTokenEndpoint first.1 in
    let third = found (is_at_redirect_uri login.redirect_uri.url called) None OtherRedirectUri second.1 in
    (first.0, second.0, third.0)

pub endpoint_is : (url : List ℕ) (o : Option Addressed) (endpoint : Addressed) → o ≡ Some endpoint → is_token_url url o ≡ true → serialize endpoint.url ≡ url
endpoint_is url None endpoint is holds = cc
endpoint_is url (Some e) endpoint is holds =
    let its : e ≡ endpoint = cc in
    ap (λ (x : Addressed). serialize x.url) (sym its) ∙ same_is (serialize e.url) url holds

-- ---- what the redirect says

passed : (b : Bool) (x : Result (List ℕ) RedirectErrorView) (why : RedirectErrorView) (code : List ℕ) → cond b x (Err why) ≡ Ok code → (b ≡ true) × (x ≡ Ok code)
passed true x why code is = (refl, is)
passed false x why code is = cc

state_is : (state : List ℕ) (told : Option (List ℕ)) → is_state state told ≡ true → option_map sha256 told ≡ Some (sha256 state)
state_is state None holds = cc
state_is state (Some told) holds = ap Some (same_is (sha256 told) (sha256 state) holds)

not_error : (error : Option (ErrorParts AuthorizationErrorCode)) (x : Result (List ℕ) RedirectErrorView) (code : List ℕ) → unless_error error x ≡ Ok code → (error ≡ None) × (x ≡ Ok code)
not_error None x code is = (refl, is)
not_error (Some e) x code is = cc

no_error : (o : Option (List ℕ)) (pairs : List Pair) → error_told o pairs ≡ None → o ≡ None
no_error None pairs is = refl
no_error (Some e) pairs is = cc

code_is : (o : Option (List ℕ)) (code : List ℕ) → code_told o ≡ Ok code → o ≡ Some code
code_is None code is = cc
code_is (Some c) code is = let e : c ≡ code = cc in ap Some e

pub answered : (client : Settings) (login : LoginView) (arrival : Arrival) (code : List ℕ) → mismatch client login arrival.called ≡ None → answer login.state login.issuer arrival.pairs ≡ Ok code → IsAnswerTo login arrival × (sole_text (codes "code") arrival.pairs ≡ Some code)
answered client login arrival code bound is =
    let place = (bound_to client login arrival.called bound).2 in
    let state = passed (is_state login.state (sole_text (codes "state") arrival.pairs)) _ other_state code is in
    let issuer = passed (is_issuer login.issuer (texts (codes "iss") arrival.pairs)) _ other_issuer code state.1 in
    let told = not_error (error_told (first_text (codes "error") arrival.pairs) arrival.pairs) _ code issuer.1 in (
      record {
        state = state_is login.state (sole_text (codes "state") arrival.pairs) state.0;
        place = place;
        issuer = issuer.0;
        no_error = no_error (first_text (codes "error") arrival.pairs) arrival.pairs told.0;
      },
      code_is (sole_text (codes "code") arrival.pairs) code told.1,
    )

-- ---- and the other way round

state_told : (state : List ℕ) (told : Option (List ℕ)) → option_map sha256 told ≡ Some (sha256 state) → is_state state told ≡ true
state_told state None is = cc
state_told state (Some told) is =
    ap (λ (x : List ℕ). bytes_eq x (sha256 state)) (some_is is) ∙ same_self (sha256 state)

pass : (b : Bool) (x : Result (List ℕ) RedirectErrorView) (why : RedirectErrorView) → b ≡ true → cond b x (Err why) ≡ x
pass b x why holds = ap (λ (t : Bool). cond t x (Err why)) holds

pub each_answer_is_taken : EachAnswerIsTaken
each_answer_is_taken login arrival code is code_is =
    let pairs = arrival.pairs in
    pass (is_state login.state (sole_text (codes "state") pairs)) _ other_state (state_told login.state (sole_text (codes "state") pairs) is.state)
    ∙ pass (is_issuer login.issuer (texts (codes "iss") pairs)) _ other_issuer is.issuer
    ∙ ap (λ (e : Option (List ℕ)). unless_error (error_told e pairs) (code_told (sole_text (codes "code") pairs))) is.no_error
    ∙ ap code_told code_is
