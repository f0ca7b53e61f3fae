-- The endpoints of a server at which a client authenticates, and the requests that go to one.
use Rattle.std.specs.Prelude.{◌≡◌, ℕ, Bool, List, [], ◌∷◌, ◌++◌}
use Rattle.std.specs.List.{list_any}
use Rattle.http_uri.specs.declared.uri.Uri.{Uri}
use Rattle.http_uri.specs.Uri.{Spells, uri_eq}

-- the target is that of an endpoint: scheme and authority are equal in any case (RFC 3986, 6.2.2.1),
-- path and query in each byte
abbrev pub is_endpoint : List Uri → Uri → Bool
is_endpoint endpoints target = list_any (uri_eq target) endpoints

-- one endpoint more, behind the others: the target of each request to the URL with this text
abbrev pub AddsEndpoint : List Uri → List ℕ → List Uri → Type 0
AddsEndpoint before text after =
    (endpoint : Uri) × Spells text endpoint × (after ≡ before ++ endpoint ∷ [])
