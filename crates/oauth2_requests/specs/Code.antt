-- The exchange of a code (RFC 6749, section 4.1.3).
use Rattle.std.specs.Prelude.{ℕ, List, [], ◌∷◌, ◌++◌, codes, Option}
use Rattle.oauth2_urls.specs.Addressed.{Addressed}
use Rattle.oauth2_form.specs.Pairs.{Pair}
use Rattle.oauth2_wire.specs.Expected.{Configuration, optional_pair}
use Rattle.oauth2_requests.specs.Base.{Base, configuration_of}

-- a request for a token by an authorization code, and its endpoint (RFC 6749, 4.1.3)
pub record CodeRequest : Type 0 where
  pub base : Base
  pub token_url : Addressed
  pub code : List ℕ
  pub pkce_verifier : Option (List ℕ)
  pub redirect_url : Option Addressed

-- the grant type, the code and, if set, the code verifier (RFC 6749, 4.1.3; RFC 7636, 4.5)
abbrev pub code_pairs : List ℕ → Option (List ℕ) → List Pair
code_pairs code pkce_verifier =
    (codes "grant_type", codes "authorization_code")
    ∷ (codes "code", code)
    ∷ []
    ++ optional_pair (codes "code_verifier") pkce_verifier

-- what this request sends, with the redirect URL if it has one
abbrev pub code_configuration : CodeRequest → Configuration
code_configuration r = configuration_of r.base (code_pairs r.code r.pkce_verifier) r.redirect_url
