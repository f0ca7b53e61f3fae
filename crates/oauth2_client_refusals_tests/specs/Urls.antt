-- The authorization URLs that the rows of the tests make.
use Rattle.std.specs.Prelude.{◌≡◌, ℕ, List, Some}
use Rattle.url.specs.Parts.{Parts}
use Rattle.oauth2_urls.specs.Addressed.{Addressed}
use Rattle.oauth2_requests.specs.Authorization.{Authorization, query_pairs}
use Rattle.oauth2_form.specs.Query.{ExtendsQuery}
use Rattle.oauth2.specs.Settings.{Settings}

-- the URL is that of the client's authorization endpoint with the request's parameters added to its
-- query, and the state is the request's (RFC 6749, 4.1.1)
abbrev pub LeadsTo : Settings → (Addressed → Authorization) → Parts × List ℕ → Type 0
LeadsTo client request answer =
    (endpoint : Addressed) × (client.auth_url ≡ Some endpoint)
    × ExtendsQuery endpoint.url answer.0 (query_pairs (request endpoint))
    × (answer.1 ≡ (request endpoint).state)
