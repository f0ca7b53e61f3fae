-- For whom an assertion is (RFC 7523, 3), and what may be the identifier of an issuer (RFC 8414, 2).
use Rattle.std.specs.Prelude.{◌≡◌, ◌⊎◌, ℕ, not, List, bytes_eq, codes, Option, Some, None, is_some, Ok, Err, if◌then◌else◌}
use Rattle.url.specs.Parts.{Parts}
use Rattle.url.specs.Parser.{parse_url, IsOutOfRoom}
use Rattle.url.specs.declared.error.ParseError.{ParseError}
use Rattle.oauth2_client_secret_jwt.specs.declared.audience.Audience.{Audience}
use Rattle.oauth2_client_secret_jwt.specs.declared.audience.Audience.TheVariants.{Issuer, TokenEndpoint}
use Rattle.oauth2_client_secret_jwt.specs.declared.issuer_identifier.IssuerFault.{IssuerFault}
use Rattle.oauth2_client_secret_jwt.specs.declared.issuer_identifier.IssuerFault.TheVariants.{NotUrl, NotHttps, HasQuery, HasFragment, Memory}

-- the claim `aud`: the issuer's identifier or the URL of the token endpoint, as it was given
abbrev pub audience_text : Audience → List ℕ
audience_text (Issuer issuer) = issuer
audience_text (TokenEndpoint url) = url.text

-- why the text of a URL is no identifier of an issuer (RFC 8414, 2); of several reasons, the first
-- one here
abbrev pub issuer_fault : Parts → Option IssuerFault
issuer_fault url =
    if not (bytes_eq url.scheme (codes "https")) then Some NotHttps
    else (if is_some url.query then Some HasQuery
    else (if is_some url.fragment then Some HasFragment
    else None))

-- why a text was not read as a URL: it is none, or there was no room to read it
abbrev pub IsNoUrl : List ℕ → IssuerFault → Type 0
IsNoUrl text fault =
    (fault ≡ Memory)
    ⊎ ((fault ≡ NotUrl) × (cause : ParseError) × (parse_url None text ≡ Err cause) × ¬ (IsOutOfRoom cause))

-- why a text is no identifier of an issuer
abbrev pub IsNoIssuer : List ℕ → IssuerFault → Type 0
IsNoIssuer text fault =
    IsNoUrl text fault
    ⊎ ((url : Parts) × (parse_url None text ≡ Ok url) × (issuer_fault url ≡ Some fault))
