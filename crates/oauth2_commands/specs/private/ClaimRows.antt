-- The members of the output for an ID token's claims (OpenID Connect Core 1.0, 2), in four groups.
use Rattle.std.specs.Prelude.{List, [], ◌∷◌, Some, option_map, codes}
use Rattle.serde_json.specs.Data.{string, array}
use Rattle.oauth2_times.specs.Instants.{second_data}
use Rattle.oauth2_json.specs.Puts.{Row}
use Rattle.oauth2_json.specs.Values.{text_items}
use Rattle.oauth2_openid.specs.Claims.{Claims}

-- the members `iss`, `sub` and `aud`
abbrev pub names_rows : Claims → List Row
names_rows c =
    (codes "iss", Some (string c.issuer))
    ∷ (codes "sub", Some (string c.subject))
    ∷ (codes "aud", Some (array (text_items c.audience)))
    ∷ []

-- the members `exp`, `iat` and `auth_time`, in whole seconds since 1970
abbrev pub times_rows : Claims → List Row
times_rows c =
    (codes "exp", Some (second_data c.expires_at))
    ∷ (codes "iat", Some (second_data c.issued_at))
    ∷ (codes "auth_time", option_map second_data c.auth_time)
    ∷ []

-- the members `nonce`, `acr` and `amr`
abbrev pub sign_in_rows : Claims → List Row
sign_in_rows c =
    (codes "nonce", option_map string c.nonce)
    ∷ (codes "acr", option_map string c.authentication_context_class)
    ∷ (codes "amr", option_map (λ list. array (text_items list)) c.authentication_methods)
    ∷ []

-- the members `azp` and `at_hash`
abbrev pub bindings_rows : Claims → List Row
bindings_rows c =
    (codes "azp", option_map string c.authorized_party)
    ∷ (codes "at_hash", option_map string c.access_token_hash)
    ∷ []
