-- Grants that are an assertion of another party (RFC 7521, section 4.1).
use Rattle.std.specs.Prelude.{ℕ, List, [], ◌∷◌, codes}
use Rattle.oauth2_form.specs.Pairs.{Pair}
use Rattle.oauth2_types.specs.Pkce.{base64url}

-- the grant type of a JWT (RFC 7523, section 2.1)
abbrev pub jwt_bearer_grant : List ℕ
jwt_bearer_grant = codes "urn:ietf:params:oauth:grant-type:jwt-bearer"

-- the grant type of a SAML 2.0 assertion (RFC 7522, section 2.1)
abbrev pub saml2_bearer_grant : List ℕ
saml2_bearer_grant = codes "urn:ietf:params:oauth:grant-type:saml2-bearer"

-- the parameters: one JWT, as it is (RFC 7523, section 2.1)
abbrev pub jwt_bearer_pairs : List ℕ → List Pair
jwt_bearer_pairs jwt = (codes "assertion", jwt) ∷ []

-- the parameters: one assertion, whose XML is in base64url, without padding (RFC 7522, section 2.1)
abbrev pub saml2_bearer_pairs : List ℕ → List Pair
saml2_bearer_pairs xml = (codes "assertion", base64url xml) ∷ []
