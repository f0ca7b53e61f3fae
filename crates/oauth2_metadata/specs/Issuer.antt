-- Issuers (RFC 8414, section 2), and where their metadata is (section 3.1; OpenID Connect Discovery
-- 1.0, section 4.1).
use Rattle.std.specs.Prelude.{◌≡◌, ◌⊎◌, ℕ, ◌^◌, ◌≤◌, ◌==◌, not, ◌&&◌, ◌||◌, Bool, false, List, [], ◌∷◌, ◌++◌, codes, bytes_eq, length, slice_index, Option, Some, None, is_some, Result, Ok, Err, if◌then◌else◌}
use Rattle.std.specs.Net.Addr.{ipv4_octets, ipv6_segments}
use Rattle.url.specs.Ascii.{slash}
use Rattle.url.specs.declared.host.Host.{Host}
use Rattle.url.specs.declared.host.Host.TheVariants.{Domain, Ipv4, Ipv6}
use Rattle.url.specs.Parts.{Parts, nonempty_host, serialize}
use Rattle.url.specs.Parser.{parse_url, with_path, IsOutOfRoom as HasNoRoom}
use Rattle.url.specs.declared.error.ParseError.{ParseError}
use Rattle.oauth2_metadata.specs.declared.issuer.IssuerError.{IssuerError}
use Rattle.oauth2_metadata.specs.declared.issuer.IssuerError.TheVariants.{NotUrl, NotHttps, HasQuery, HasFragment, TooLong, Memory}

-- ---- what an issuer may be

-- whether the host is a loopback host: `localhost`, 127.0.0.0/8 or `[::1]`
abbrev pub is_loopback : Option (Host (List ℕ)) → Bool
is_loopback None = false
is_loopback (Some (Domain name)) = bytes_eq name (codes "localhost")
is_loopback (Some (Ipv4 address)) = slice_index (ipv4_octets address) 0 == 127
is_loopback (Some (Ipv6 address)) =
    bytes_eq (ipv6_segments address) (0 ∷ 0 ∷ 0 ∷ 0 ∷ 0 ∷ 0 ∷ 0 ∷ 1 ∷ [])

-- whether the scheme is `https`, or `http` with a loopback host
abbrev pub is_secure : Parts → Bool
is_secure url =
    bytes_eq url.scheme (codes "https")
    || (bytes_eq url.scheme (codes "http") && is_loopback (nonempty_host url))

-- why a URL cannot be an issuer (RFC 8414, 2), or `None`; of several reasons, the first one here
abbrev pub issuer_refusal : Parts → Option IssuerError
issuer_refusal url =
    if not (is_secure url) then Some NotHttps
    else (if is_some url.query then Some HasQuery
    else (if is_some url.fragment then Some HasFragment
    else None))

-- ---- where its metadata is

-- the path without the slash at its end, if it has one
abbrev pub trimmed : List ℕ → List ℕ
trimmed [] = []
trimmed (b ∷ []) = if b == slash then [] else b ∷ []
trimmed (b ∷ c ∷ bytes) = b ∷ trimmed (c ∷ bytes)

-- the URL of an issuer's metadata (RFC 8414, 3.1): the well-known path is put between the host and
-- the issuer's path
abbrev pub metadata_place : Parts → Parts
metadata_place issuer =
    with_path issuer (codes "/.well-known/oauth-authorization-server" ++ trimmed issuer.path)

-- the URL of an issuer's OpenID configuration (OpenID Connect Discovery 1.0, 4.1): the well-known
-- path follows the issuer's path
abbrev pub openid_place : Parts → Parts
openid_place issuer =
    with_path issuer (trimmed issuer.path ++ codes "/.well-known/openid-configuration")

-- the text of the URL has 2^32 bytes or more, and a `Url` holds less
abbrev pub IsTooLong : Parts → Type 0
IsTooLong url = 2 ^ 32 ≤ length (serialize url)

-- why this URL could not be made: it would be too long, or memory ran out for one that is not
abbrev pub IsOutOfRoom : Parts → IssuerError → Type 0
IsOutOfRoom url error = ((error ≡ TooLong) × IsTooLong url) ⊎ ((error ≡ Memory) × ¬ (IsTooLong url))

-- the result for an issuer: the URL of its metadata at `place`, or why the issuer is refused or
-- that URL could not be made
abbrev pub IsPlaced : (Parts → Parts) → Parts → Result Parts IssuerError → Type 0
IsPlaced place issuer (Ok url) = (issuer_refusal issuer ≡ None) × (url ≡ place issuer)
IsPlaced place issuer (Err error) =
    (issuer_refusal issuer ≡ Some error)
    ⊎ ((issuer_refusal issuer ≡ None) × IsOutOfRoom (place issuer) error)

-- why a text was not parsed: the parser had no room (`Memory`), which says nothing about the text,
-- or the text is not a URL (`NotUrl`)
abbrev pub IsNoUrl : List ℕ → IssuerError → Type 0
IsNoUrl text error =
    (error ≡ Memory) ⊎ ((error ≡ NotUrl) × (cause : ParseError) × (parse_url None text ≡ Err cause) × ¬ (HasNoRoom cause))

-- the text that `Display` writes of an error
abbrev pub issuer_error_text : IssuerError → List ℕ
issuer_error_text NotUrl = codes "issuer is not a URL"
issuer_error_text NotHttps = codes "issuer is not an https URL"
issuer_error_text HasQuery = codes "issuer has a query"
issuer_error_text HasFragment = codes "issuer has a fragment"
issuer_error_text TooLong = codes "metadata URL is too long"
issuer_error_text Memory = codes "Out of memory"
