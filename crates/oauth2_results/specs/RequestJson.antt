-- A request as JSON.
use Rattle.std.specs.Prelude.{ℕ, List, [], ◌∷◌, map, Option, Some, None, codes}
use Rattle.std.specs.Str.Lossy.{utf8_lossy}
use Rattle.http_header.specs.FieldValue.{FieldValue}
use Rattle.http_header.specs.HeaderMap.{Entries, pairs}
use Rattle.http_uri.specs.Uri.{uri_text}
use Rattle.oauth2_form.specs.Pairs.{Pair}
use Rattle.oauth2_wire.specs.Request.{RequestView}
use Rattle.oauth2_world.specs.Quotation.{quotation}
use Rattle.oauth2_results.specs.Decoded.{decoded_of}
use Rattle.oauth2_results.specs.Json.{object_text, list_text, pair_json}

-- bytes as a JSON string, with U+FFFD in place of what is not UTF-8
abbrev pub lossy_json : List ℕ → List ℕ
lossy_json bytes = quotation (utf8_lossy bytes)

-- a name of a header with one of its values
abbrev pub header_json : List ℕ × FieldValue → List ℕ
header_json h = pair_json (h.0, utf8_lossy h.1.bytes)

-- all headers, in order, each value with its name
abbrev pub headers_json : Entries FieldValue → List ℕ
headers_json headers = list_text (map header_json (pairs headers))

-- the credentials that a server reads, or `null`
abbrev pub basic_json : Option Pair → List ℕ
basic_json None = codes "null"
basic_json (Some credentials) = pair_json credentials

-- the parameters that a server reads from the body, in order: an array of arrays of a name and a
-- value
abbrev pub pairs_json : List Pair → List ℕ
pairs_json given = list_text (map pair_json given)

-- a request; `basic` and `pairs` are what a server reads that only decodes
abbrev pub request_json : RequestView → List ℕ
request_json v =
    object_text ((codes "method", quotation v.method)
    ∷ (codes "url", quotation (uri_text v.target))
    ∷ (codes "headers", headers_json v.headers)
    ∷ (codes "body", lossy_json v.body)
    ∷ (codes "basic", basic_json (decoded_of v).basic)
    ∷ (codes "pairs", pairs_json (decoded_of v).pairs) ∷ [])
