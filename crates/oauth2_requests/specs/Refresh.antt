-- The exchange of a refresh token (RFC 6749, section 6).
use Rattle.std.specs.Prelude.{ℕ, List, [], ◌∷◌, codes, None}
use Rattle.oauth2_urls.specs.Addressed.{Addressed}
use Rattle.oauth2_form.specs.Pairs.{Pair}
use Rattle.oauth2_wire.specs.Expected.{Configuration}
use Rattle.oauth2_requests.specs.Base.{Base, configuration_of}

-- a request for a token by a refresh token, and its endpoint (RFC 6749, 6)
pub record RefreshRequest : Type 0 where
  pub base : Base
  pub token_url : Addressed
  pub refresh_token : List ℕ

-- the grant type and the refresh token (RFC 6749, 6)
abbrev pub refresh_pairs : List ℕ → List Pair
refresh_pairs refresh_token =
    (codes "grant_type", codes "refresh_token") ∷ (codes "refresh_token", refresh_token) ∷ []

-- what this request sends
abbrev pub refresh_configuration : RefreshRequest → Configuration
refresh_configuration r = configuration_of r.base (refresh_pairs r.refresh_token) None
