-- The invariant of a verification URL.
use Rattle.std.specs.Prelude.{◌≡◌, None, Ok}
use Rattle.url.specs.Parser.{parse_url}
use Rattle.oauth2_urls.specs.Addressed.{Addressed}

-- the URL of `a` is the one that its text parses to, without a base (URL Standard)
unfoldable pub IsAddress : Addressed → Type 0
IsAddress a = parse_url None a.text ≡ Ok a.url
