-- How a login ends.
use Rattle.std.proofs.Common.{◌≡◌, ℕ, List, Bool, true, false, Option, None, Some, Ok, Err, refl, subst, ap, sym, ◌∙◌, inl, inr, codes}
use Rattle.std.specs.Prelude.{Result, IfOk, if◌then◌else◌}
use Rattle.url.specs.Parts.{Parts, serialize}
use Rattle.oauth2_types.specs.Pkce.{sha256_challenge}
use Rattle.oauth2_urls.specs.Addressed.{Addressed}
use Rattle.oauth2_wire.specs.ByName.{read_by_name}
use Rattle.oauth2_wire.specs.Expected.{expected_pairs}
use Rattle.oauth2_wire.specs.Once.{AsksOnce}
use Rattle.oauth2_wire.specs.Request.{HttpRequest, RequestView, IsRequestOf}
use Rattle.oauth2_wire.specs.declared.request.AuthType.{AuthType}
use Rattle.oauth2_wire.specs.declared.request.AuthType.TheVariants.{BasicAuth, RequestBody}
use Rattle.oauth2.specs.CodeFlow.{PassesCheck}
use Rattle.oauth2.specs.Settings.{Settings}
use Rattle.oauth2_redirect.specs.Login.{LoginView}
use Rattle.oauth2_redirect.specs.Start.{ShowsLogin}
use Rattle.oauth2.proofs.CodeFlowLaws.{exchange, verifier-read}
use Rattle.oauth2_redirect.specs.Bound.{Authorized, Refuses, ShowsRefusal, mismatch}
use Rattle.oauth2_redirect.specs.End.{EndsExchange, EndsLogin, ExchangesCode, FinishesLogin, RepeatsRedirectUri, login_exchange, refused_by}
use Rattle.oauth2_redirect.specs.declared.login_error.LoginError.{LoginError}
use Rattle.oauth2_redirect.specs.declared.login_error.LoginError.TheVariants.{Refused}
use Rattle.oauth2_redirect.specs.declared.login_refusal.LoginMismatch.{LoginMismatch}
use Rattle.oauth2_redirect.specs.declared.login_refusal.LoginRefusal.{LoginRefusal}
use Rattle.oauth2_redirect.specs.declared.login_refusal.LoginRefusal.TheVariants.{Mismatch, Redirect}
use Rattle.oauth2_redirect.specs.declared.login_refusal.RefusedLogin.{RefusedLogin}
use Rattle.serde_json.specs.Data.{Data}
use Rattle.oauth2_json.specs.Reading.{Reading}
use Rattle.oauth2_form.specs.Pairs.{Pair, form}
use Rattle.oauth2_wire.specs.Reply.{HttpResponse, answer_of}
use Rattle.oauth2_wire.specs.declared.error.RequestTokenError.{RequestTokenError}
use Rattle.oauth2_requests.specs.Code.{CodeRequest, code_configuration}
use Rattle.oauth2_redirect.specs.Query.{sole_text}
use Rattle.oauth2_redirect.specs.declared.redirect.RedirectError.TheVariants.{Memory, OtherState}
use Rattle.oauth2_redirect.specs.Redirect.{HoldsTexts, IssuerExpectation, MayWantMemory, RedirectErrorView, other_state, answer, is_state}

module _ {D A T E RE C : Type 0} {meaning : D → A} {error_meaning : T → E} (reading : Data → Reading A) (error_reading : Data → Reading E) (step : C → HttpRequest → Result HttpResponse RE → C → Type 0) {before after : C} {result : Result D (RequestTokenError RE T)} where
  -- what is asked with the request for a login's code is the login's exchange
  pub ExchangesCode-of_request : (client : Settings) (url : Addressed) (login : LoginView) (code : List ℕ) (r : CodeRequest) → client.token_url ≡ Some url → r ≡ login_exchange client url login code
      → AsksOnce meaning error_meaning step (answer_of r.base.reply_rule reading error_reading) (IsRequestOf (code_configuration r)) (serialize r.token_url.url) before result after
      → ExchangesCode meaning error_meaning reading error_reading step client login code before result after
  ExchangesCode-of_request client url login code r there is asked = (
    url,
    there,
    subst (λ (x : CodeRequest). AsksOnce meaning error_meaning step (answer_of x.base.reply_rule reading error_reading) (IsRequestOf (code_configuration x)) (serialize x.token_url.url) before result after) is asked,
  )

only_with : (b : Bool) (told : Result (List ℕ) RedirectErrorView) (code : List ℕ) → (if b then told else Err other_state) ≡ Ok code → b ≡ true
only_with true told code is = refl
only_with false told code is = cc

-- a code is told only with the login's state
pub state-of_code : (state : List ℕ) (issuer : IssuerExpectation) (pairs : List Pair) (code : List ℕ) → answer state issuer pairs ≡ Ok code → is_state state (sole_text (codes "state") pairs) ≡ true
state-of_code state issuer pairs code is = only_with (is_state state (sole_text (codes "state") pairs)) _ code is

-- and only with a state
pub code-has_state : (state : List ℕ) (issuer : IssuerExpectation) (pairs : List Pair) (code : List ℕ) → answer state issuer pairs ≡ Ok code → sole_text (codes "state") pairs ≡ None → ⊥
code-has_state state issuer pairs code is none =
    let yes = state-of_code state issuer pairs code is in
    let no : is_state state (sole_text (codes "state") pairs) ≡ false = ap (is_state state) none in cc

-- a refused login tells the mismatch that was found
refused_as : (found : Option LoginMismatch) (told : Result (List ℕ) RedirectErrorView) (why : LoginRefusal) (error : LoginMismatch) → ShowsRefusal why found told → found ≡ Some error → why ≡ Mismatch error
refused_as found told (Mismatch m) error shown is = cc
refused_as found told (Redirect e) error shown is = cc

refusal_is : {RE T : Type 0} (why : LoginRefusal) (kept login : LoginView) (error : LoginRefusal) → why ≡ error → kept ≡ login → ◌≡◌ {A = LoginError RE T} (refused_by why kept) (refused_by error login)
refusal_is why kept login error same is = rw (same, is) refl

module _ {D A T E RE C : Type 0} (meaning : D → A) (error_meaning : T → E) (reading : Data → Reading A) (error_reading : Data → Reading E) (step : C → HttpRequest → Result HttpResponse RE → C → Type 0) (client : Settings) (login : LoginView) (called : Parts) (pairs : List Pair) (before after : C) where
  -- a login that gave a token exchanged the code that the redirect told
  pub token-of_end : (result : Result D (LoginError RE T)) → EndsLogin meaning error_meaning reading error_reading step client login called pairs before result after
      → IfOk result (λ token. (mismatch client login called ≡ None) × ((code : List ℕ) × (answer login.state login.issuer pairs ≡ Ok code) × ExchangesCode meaning error_meaning reading error_reading step client login code before (Ok token) after))
  token-of_end (Ok token) (inl (code, none, is, (Ok t, same, asked))) =
      let e : t ≡ token = cc in
      (none, (code, is, subst (λ x. ExchangesCode meaning error_meaning reading error_reading step client login code before (Ok x) after) e asked))
  token-of_end (Ok token) (inl (code, none, is, (Err error, same, asked))) = cc
  token-of_end (Ok token) (inr (refused, same, shown, stayed)) = cc
  token-of_end (Err error) ends = tt

  -- a login that is given back is the login
  pub login-given_back : (result : Result D (LoginError RE T)) → EndsLogin meaning error_meaning reading error_reading step client login called pairs before result after
      → (refused : RefusedLogin) → result ≡ Err (Refused refused) → refused.login ≡ login
  login-given_back result (inl (code, none, is, (Ok token, same, asked))) refused is_refused = cc
  login-given_back result (inl (code, none, is, (Err fault, same, asked))) refused is_refused = cc
  login-given_back result (inr (why, same, shown, stayed)) refused is_refused =
      let e : why ≡ refused = cc in subst (λ (r : RefusedLogin). r.login ≡ login) e shown.0

  -- what a login with a code makes
  pub finishes-authorized : (is_ready : C → Type 0) (it : Authorized) → mismatch client login called ≡ None → answer login.state login.issuer pairs ≡ Ok it.code → it.login ≡ login
      → (result : Result D (LoginError RE T)) → EndsExchange meaning error_meaning reading error_reading step client it.login it.code before result after → is_ready after
      → FinishesLogin meaning error_meaning reading error_reading is_ready step client login called pairs before result after
  finishes-authorized is_ready it none told same result ends is_so =
      let exchanged = subst (λ (l : LoginView). EndsExchange meaning error_meaning reading error_reading step client l it.code before result after) same ends in
      let end : EndsLogin meaning error_meaning reading error_reading step client login called pairs before result after = inl (it.code, none, told, exchanged) in
      let yes = state-of_code login.state login.issuer pairs it.code told in
      record {
        end = end;
        token = token-of_end result end;
        bound = λ error found. cc;
        no_code = λ why no. cc;
        other_state = λ no. cc;
        given_back = login-given_back result end;
        memory = λ is state visible. subst HoldsTexts (sym told) tt;
        no_state = λ found no. absurd (code-has_state login.state login.issuer pairs it.code told no);
        ready = is_so;
      }

-- what a refused login makes
module _ {D A T E RE C : Type 0} (meaning : D → A) (error_meaning : T → E) (reading : Data → Reading A) (error_reading : Data → Reading E) (step : C → HttpRequest → Result HttpResponse RE → C → Type 0) (client : Settings) (login : LoginView) (called : Parts) (pairs : List Pair) (before : C) where
  abbrev given : RefusedLogin → Result D (LoginError RE T)
  given refused = Err (Refused refused)

  told-mismatch : (refused : RefusedLogin) → Refuses client login called pairs refused → (error : LoginMismatch) → mismatch client login called ≡ Some error → given refused ≡ Err (refused_by (Mismatch error) login)
  told-mismatch refused why error found =
      ap (λ (e : LoginError RE T). Err e) (refusal_is refused.error refused.login login (Mismatch error) (refused_as (mismatch client login called) _ refused.error error why.1 found) why.0)

  told-memory : (refused : RefusedLogin) → given refused ≡ Err (refused_by (Redirect Memory) login) → refused.error ≡ Redirect Memory
  told-memory refused is =
      let same : refused ≡ record { error = Redirect Memory; login = login } = cc in ap (λ (r : RefusedLogin). r.error) same

  pub finishes-refused : (is_ready : C → Type 0) (refused : RefusedLogin) → Refuses client login called pairs refused
      → (refused.error ≡ Redirect Memory → MayWantMemory login.state login.issuer pairs)
      → (mismatch client login called ≡ None → sole_text (codes "state") pairs ≡ None → refused.error ≡ Redirect OtherState)
      → is_ready before
      → FinishesLogin meaning error_meaning reading error_reading is_ready step client login called pairs before (given refused) before
  finishes-refused is_ready refused why memory no_state is_so =
      let end : EndsLogin meaning error_meaning reading error_reading step client login called pairs before (given refused) before = inr (refused, refl, why, refl) in
      record {
        end = end;
        token = tt;
        bound = λ error found. (told-mismatch refused why error found, refl);
        no_code = λ cause no. refl;
        other_state = λ no. refl;
        given_back = login-given_back meaning error_meaning reading error_reading step client login called pairs before before (given refused) end;
        memory = λ is. memory (told-memory refused is);
        no_state = λ found no. ap (λ (e : LoginError RE T). Err e) (refusal_is refused.error refused.login login (Redirect OtherState) (no_state found no) why.0);
        ready = is_so;
      }

-- ---- what a server reads of the request for the token

redirect_uri-read : (auth_type : AuthType) (id : List ℕ) (secret : Option (List ℕ)) (code verifier uri : List ℕ) → read_by_name (codes "redirect_uri") (expected_pairs (exchange auth_type id secret code verifier (Some uri))) ≡ Some uri
redirect_uri-read BasicAuth id None code verifier uri = refl
redirect_uri-read BasicAuth id (Some secret) code verifier uri = refl
redirect_uri-read RequestBody id None code verifier uri = refl
redirect_uri-read RequestBody id (Some secret) code verifier uri = refl

abbrev sent : Settings → Addressed → LoginView → List ℕ → List Pair
sent client endpoint login code = expected_pairs (code_configuration (login_exchange client endpoint login code))

verifier-sent : (client : Settings) (endpoint : Addressed) (login : LoginView) (code : List ℕ) → read_by_name (codes "code_verifier") (sent client endpoint login code) ≡ Some login.verifier
verifier-sent client endpoint login code = verifier-read client.auth_type client.client_id client.client_secret code login.verifier (Some login.redirect_uri.text)

-- a login that shows its challenge passes its check
pub PassesCheck-of_login : (login : LoginView) (query : List Pair) (client : Settings) (endpoint : Addressed) (code : List ℕ) (v : RequestView)
    → ShowsLogin login query → IsRequestOf (code_configuration (login_exchange client endpoint login code)) (serialize endpoint.url) v
    → PassesCheck login.verifier query (form v.body)
PassesCheck-of_login login query client endpoint code v shown is = (
  (sha256_challenge login.verifier).text,
  shown.1,
  shown.2,
  ap (read_by_name (codes "code_verifier")) is.form ∙ verifier-sent client endpoint login code,
  inl (refl, refl),
)

-- a login that shows its redirect URI sends it again
pub RepeatsRedirectUri-of_login : (login : LoginView) (query : List Pair) (client : Settings) (endpoint : Addressed) (code : List ℕ) (v : RequestView)
    → ShowsLogin login query
    → IsRequestOf (code_configuration (login_exchange client endpoint login code)) (serialize endpoint.url) v
    → RepeatsRedirectUri login.redirect_uri.text query (form v.body)
RepeatsRedirectUri-of_login login query client endpoint code v shown is = (
  shown.3,
  ap (read_by_name (codes "redirect_uri")) is.form
      ∙ redirect_uri-read client.auth_type client.client_id client.client_secret code login.verifier login.redirect_uri.text,
)
