-- The exchange of a token (RFC 8693).
use Rattle.std.specs.Prelude.{ℕ, List, [], ◌∷◌, ◌++◌, map, codes, Option, None, Some}
use Rattle.oauth2_form.specs.Pairs.{Pair}
use Rattle.oauth2_wire.specs.Expected.{optional_pair}
use Rattle.oauth2_grants.specs.declared.token_type.TokenTypeIdentifier.{TokenTypeIdentifier}
use Rattle.oauth2_grants.specs.declared.token_type.TokenTypeIdentifier.TheVariants.{AccessToken, RefreshToken, IdToken, Saml1, Saml2, Jwt, Other}

-- the identifier of a token's type (RFC 8693, section 3)
abbrev pub token_type_text : TokenTypeIdentifier → List ℕ
token_type_text AccessToken = codes "urn:ietf:params:oauth:token-type:access_token"
token_type_text RefreshToken = codes "urn:ietf:params:oauth:token-type:refresh_token"
token_type_text IdToken = codes "urn:ietf:params:oauth:token-type:id_token"
token_type_text Saml1 = codes "urn:ietf:params:oauth:token-type:saml1"
token_type_text Saml2 = codes "urn:ietf:params:oauth:token-type:saml2"
token_type_text Jwt = codes "urn:ietf:params:oauth:token-type:jwt"
token_type_text (Other text) = text.now

-- a token and its type
pub record TypedToken : Type 0 where
  pub token : List ℕ
  pub token_type : List ℕ

-- what an exchange asks for (RFC 8693, section 2.1)
pub record Exchange : Type 0 where
  pub resources : List (List ℕ)
  pub audiences : List (List ℕ)
  pub requested_token_type : Option (List ℕ)
  pub subject : TypedToken
  pub actor : Option TypedToken

-- the grant type (RFC 8693, section 2.1)
abbrev pub token_exchange_grant : List ℕ
token_exchange_grant = codes "urn:ietf:params:oauth:grant-type:token-exchange"

-- one pair for each value: a resource and an audience may be sent more than once
abbrev pub pairs_named : List ℕ → List (List ℕ) → List Pair
pairs_named name values = map (λ value. (name, value)) values

-- the subject's token and its type
abbrev pub subject_pairs : TypedToken → List Pair
subject_pairs subject =
    (codes "subject_token", subject.token) ∷ (codes "subject_token_type", subject.token_type) ∷ []

-- the type of the actor's token goes with that token
abbrev pub actor_pairs : Option TypedToken → List Pair
actor_pairs None = []
actor_pairs (Some actor) =
    (codes "actor_token", actor.token) ∷ (codes "actor_token_type", actor.token_type) ∷ []

-- the parameters, in the order of RFC 8693, section 2.1; the scope is the request's
abbrev pub token_exchange_pairs : Exchange → List Pair
token_exchange_pairs e =
    pairs_named (codes "resource") e.resources
    ++ pairs_named (codes "audience") e.audiences
    ++ optional_pair (codes "requested_token_type") e.requested_token_type
    ++ subject_pairs e.subject
    ++ actor_pairs e.actor
