-- The revocation of a token (RFC 7009, section 2.1).
use Rattle.std.specs.Prelude.{◌≡◌, ℕ, List, Option, None, codes}
use Rattle.oauth2_urls.specs.Addressed.{Addressed}
use Rattle.oauth2_wire.specs.Expected.{Configuration}
use Rattle.oauth2_requests.specs.Base.{Base, configuration_of}
use Rattle.oauth2_requests.specs.HintedToken.{hinted_token_pairs}

-- the URL of the endpoint is an `https` URL: that is the scheme of the parsed URL, which the parser
-- writes in lower case (RFC 7009, 2)
abbrev pub IsHttps : Addressed → Type 0
IsHttps endpoint = endpoint.url.scheme ≡ codes "https"

-- a revocation request, its endpoint, the token and the hint of its type, if any (RFC 7009, 2.1)
pub record TokenRevocation : Type 0 where
  pub base : Base
  pub revocation_url : Addressed
  pub token : List ℕ
  pub token_type_hint : Option (List ℕ)

-- what this request sends
abbrev pub revocation_configuration : TokenRevocation → Configuration
revocation_configuration r =
    configuration_of r.base (hinted_token_pairs r.token r.token_type_hint) None
