-- The exchange of a resource owner's password (RFC 6749, section 4.3.2).
use Rattle.std.specs.Prelude.{ℕ, List, [], ◌∷◌, codes, None}
use Rattle.oauth2_urls.specs.Addressed.{Addressed}
use Rattle.oauth2_form.specs.Pairs.{Pair}
use Rattle.oauth2_wire.specs.Expected.{Configuration}
use Rattle.oauth2_requests.specs.Base.{Base, configuration_of}

-- a request for a token by the password of a resource owner, and its endpoint (RFC 6749, 4.3.2)
pub record PasswordRequest : Type 0 where
  pub base : Base
  pub token_url : Addressed
  pub username : List ℕ
  pub password : List ℕ

-- the grant type, the user name and the password (RFC 6749, 4.3.2)
abbrev pub password_pairs : List ℕ → List ℕ → List Pair
password_pairs username password =
    (codes "grant_type", codes "password")
    ∷ (codes "username", username)
    ∷ (codes "password", password)
    ∷ []

-- what this request sends
abbrev pub password_configuration : PasswordRequest → Configuration
password_configuration r = configuration_of r.base (password_pairs r.username r.password) None
