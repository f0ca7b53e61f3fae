-- Which endpoint a configuration error names, and why.
use Rattle.std.specs.Prelude.{◌≡◌, ℕ, List}
use Rattle.oauth2_wire.specs.declared.error.ConfigurationError.{ConfigurationError}
use Rattle.oauth2_wire.specs.declared.error.ConfigurationError.TheVariants.{MissingUrl, InsecureUrl}

-- the error says that the endpoint with this name has no URL
abbrev pub IsMissingUrl : List ℕ → ConfigurationError → Type 0
IsMissingUrl name (MissingUrl given) = given.now ≡ name
IsMissingUrl name (InsecureUrl given) = ⊥

-- the error says that the URL of the endpoint with this name is not an `https` URL
abbrev pub IsInsecureUrl : List ℕ → ConfigurationError → Type 0
IsInsecureUrl name (MissingUrl given) = ⊥
IsInsecureUrl name (InsecureUrl given) = given.now ≡ name
