-- What a login sends to the authorization endpoint, and what it means that its code was exchanged.
use Rattle.std.specs.Prelude.{◌≡◌, ℕ, List, [], ◌∷◌, ◌++◌, codes, Some, Result, Ok, option_map}
use Rattle.serde_json.specs.Data.{Data}
use Rattle.url.specs.Parts.{Parts, serialize}
use Rattle.oauth2_json.specs.Reading.{Reading}
use Rattle.oauth2_types.specs.Pkce.{sha256_challenge}
use Rattle.oauth2_urls.specs.Addressed.{Addressed}
use Rattle.oauth2_form.specs.Pairs.{Pair}
use Rattle.oauth2_wire.specs.Expected.{optional_pair}
use Rattle.oauth2_wire.specs.Reply.{HttpResponse, accepted, answer_of, reply_of}
use Rattle.oauth2_wire.specs.Request.{HttpRequest, IsRequestOf, view_of}
use Rattle.oauth2_wire.specs.Texts.{given_text}
use Rattle.oauth2_requests.specs.Code.{code_configuration}
use Rattle.oauth2.specs.Settings.{Settings}
use Rattle.oauth2_redirect.specs.End.{login_exchange}
use Rattle.oauth2_redirect.specs.Login.{LoginView}
use Rattle.oauth2_openid_login.specs.Login.{OpenIdKept}
use Rattle.oauth2_openid_login.specs.Provider.{Provider}
use Rattle.oauth2_openid_login.specs.Refusal.{AuthorizesOpenIdLogin}

-- the parameters that a login adds to the authorization URL (RFC 6749, section 4.1.1)
abbrev pub login_pairs : Settings → List ℕ → List Pair
login_pairs client state =
    (codes "response_type", codes "code")
    ∷ (codes "client_id", client.client_id)
    ∷ (codes "state", state)
    ∷ []
    ++ optional_pair (codes "redirect_uri") (option_map given_text client.redirect_url)

-- the parameters that a login with OpenID Connect adds to the authorization URL (RFC 7636, section
-- 4.3; OpenID Connect Core 1.0, section 3.1.2.1)
abbrev pub openid_pairs : Settings → List ℕ → List ℕ → List ℕ → List Pair
openid_pairs client state verifier nonce =
    (codes "response_type", codes "code")
    ∷ (codes "client_id", client.client_id)
    ∷ (codes "state", state)
    ∷ (codes "code_challenge", (sha256_challenge verifier).text)
    ∷ (codes "code_challenge_method", codes "S256")
    ∷ []
    ++ optional_pair (codes "redirect_uri") (option_map given_text client.redirect_url)
    ++ (codes "scope", codes "openid")
    ∷ (codes "nonce", nonce)
    ∷ []

module _ {A E RE C : Type 0} where
  -- the HTTP client went from `before` to `after` by one call, with the token request of this login
  -- and this code, and `response` is what its reply is read as
  abbrev pub IsAnsweredBy : (Data → Reading A) → (Data → Reading E)
      → (C → HttpRequest → Result HttpResponse RE → C → Type 0) → Settings → LoginView → List ℕ → C
      → A → C → Type 0
  IsAnsweredBy reading error_reading step client login code before response after =
      (request : HttpRequest)
      × ((endpoint : Addressed) × (client.token_url ≡ Some endpoint)
      × IsRequestOf (code_configuration (login_exchange client endpoint login code)) (serialize endpoint.url) (view_of request))
      × (reply : HttpResponse) × step before request (Ok reply) after
      × (answer_of client.reply_rule reading error_reading (reply_of reply) ≡ accepted response)

  -- a redirect to this URL with these parameters has a code of this login at this provider, the token
  -- request with it is answered, and `Says` holds of what the reply is read as
  abbrev pub GetsResponse : (Data → Reading A) → (Data → Reading E)
      → (C → HttpRequest → Result HttpResponse RE → C → Type 0)
      → Settings → OpenIdKept → Provider → Parts → List Pair → C → C → (A → Type 0) → Type 0
  GetsResponse reading error_reading step client login provider called pairs before after Says =
      (code : List ℕ) × AuthorizesOpenIdLogin client login provider called pairs code
      × (response : A)
      × IsAnsweredBy reading error_reading step client login.login code before response after
      × Says response
