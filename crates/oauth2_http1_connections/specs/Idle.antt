-- The idle connections of a client.
use Rattle.std.specs.Prelude.{Bool, ◌&&◌, List, [], ◌∷◌, Option, Some, None, bytes_eq, string_bytes, ◌==◌, if◌then◌else◌}
use Rattle.oauth2_http1.specs.Origin.{Place}
use Rattle.oauth2_http1_connections.specs.declared.idle.OwnPlace.{OwnPlace}
use Rattle.oauth2_http1_connections.specs.declared.idle.Idle.{Idle}

-- an `OwnPlace` as texts
abbrev pub text_of : OwnPlace → Place
text_of own = record {
  scheme = string_bytes own.scheme;
  host = string_bytes own.host;
  port = own.port;
}

-- the same scheme, host and port, byte for byte; two texts of one host in upper and lower case are
-- told apart, so at worst a connection is not used again (RFC 9110, 4.2.3 and 4.3.1)
abbrev pub is_same_place : Place → Place → Bool
is_same_place a b = bytes_eq a.scheme b.scheme && (bytes_eq a.host b.host && (a.port == b.port))

module _ {S : Type 0} where
  -- the connection is one to the place
  abbrev pub is_for : Place → Idle S → Bool
  is_for place idle = is_same_place (text_of idle.place) place

  -- the connection to the place that was used last
  abbrev pub find : Place → List (Idle S) → Option S
  find place [] = None
  find place (idle ∷ more) = if is_for place idle then Some idle.stream else find place more

  -- the other connections
  abbrev pub without : Place → List (Idle S) → List (Idle S)
  without place [] = []
  without place (idle ∷ more) = if is_for place idle then more else idle ∷ without place more
