-- The parameters of an assertion (RFC 7521, 4.2).
use Rattle.std.specs.Prelude.{ℕ, List, [], ◌∷◌, codes}
use Rattle.oauth2_form.specs.Pairs.{Pair}
use Rattle.oauth2_client_assertions.specs.declared.assertion_type.AssertionType.{AssertionType}
use Rattle.oauth2_client_assertions.specs.declared.assertion_type.AssertionType.TheVariants.{JwtBearer, Saml2Bearer}

-- the URI of a type (RFC 7523, 2.2; RFC 7522, 2.2)
abbrev pub assertion_type_text : AssertionType → List ℕ
assertion_type_text JwtBearer = codes "urn:ietf:params:oauth:client-assertion-type:jwt-bearer"
assertion_type_text Saml2Bearer = codes "urn:ietf:params:oauth:client-assertion-type:saml2-bearer"

-- the two parameters by which a client authenticates with an assertion (RFC 7521, 4.2)
abbrev pub assertion_pairs : AssertionType → List ℕ → List Pair
assertion_pairs kind assertion =
    (codes "client_assertion_type", assertion_type_text kind)
    ∷ (codes "client_assertion", assertion)
    ∷ []
