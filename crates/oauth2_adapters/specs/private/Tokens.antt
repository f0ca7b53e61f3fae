-- The members of an object, read from JSON tokens.
use Rattle.std.specs.Prelude.{List, Option, option_and_then}
use Rattle.json.specs.Token.{Token}
use Rattle.json.specs.Json.{Members, value, if_last}
use Rattle.oauth2_adapters.specs.Objects.{members_of}

-- the members of the object, if the tokens are exactly one object
abbrev pub object_at : List Token → Option Members
object_at ts = option_and_then members_of (option_and_then (λ p. if_last p.0 p.1) (value 127 ts))
