-- The requests that the rows of the tests make.
use Rattle.std.specs.Prelude.{◌≡◌, Option, Some}
use Rattle.url.specs.Parts.{serialize}
use Rattle.oauth2_urls.specs.Addressed.{Addressed}
use Rattle.oauth2_wire.specs.Expected.{Configuration}
use Rattle.oauth2_wire.specs.Request.{HttpRequest, IsRequestOf, view_of}

-- the client has an endpoint (`there`), and the request is the configuration's, for this endpoint
abbrev pub IsPostOf : Option Addressed → Configuration → HttpRequest → Type 0
IsPostOf there c request =
    (endpoint : Addressed) × (there ≡ Some endpoint) × IsRequestOf c (serialize endpoint.url) (view_of request)
