-- The lines of a request that the client is called with.
use Rattle.std.specs.Prelude.{ℕ, List, ◌++◌, Option, Some, None, option_map, codes}
use Rattle.std.specs.List.{flat_map}
use Rattle.std.specs.Str.Lossy.{utf8_lossy}
use Rattle.http_uri.specs.Uri.{uri_text}
use Rattle.oauth2_form.specs.Pairs.{Pair}
use Rattle.oauth2_wire.specs.Request.{RequestView, authorization_of}
use Rattle.oauth2_world.specs.Quotation.{quotation}
use Rattle.oauth2_results.specs.Decoded.{decoded_of}

-- a text and a newline byte
abbrev pub line : List ℕ → List ℕ
line text = text ++ codes "\n"

-- the line `request M T`, with the method and the target
unfoldable pub request_line : List ℕ → List ℕ → List ℕ
request_line method target = line (codes "request " ++ method ++ codes " " ++ target)

-- the line `authorization V`, with the value of the Authorization header, or `authorization none`
unfoldable pub authorization_line : Option (List ℕ) → List ℕ
authorization_line None = line (codes "authorization none")
authorization_line (Some value) = line (codes "authorization " ++ utf8_lossy value)

-- the line `body "B"`; bytes of the body that are not UTF-8 are shown as U+FFFD
unfoldable pub body_line : List ℕ → List ℕ
body_line body = line (codes "body " ++ quotation (utf8_lossy body))

-- the line `basic "I" "S"`, with an identifier and a secret, or `basic none`
unfoldable pub basic_line : Option Pair → List ℕ
basic_line None = line (codes "basic none")
basic_line (Some pair) = line (codes "basic " ++ quotation pair.0 ++ codes " " ++ quotation pair.1)

-- the line `pair "N" "V"`, with the name and the value of a parameter
unfoldable pub pair_line : Pair → List ℕ
pair_line pair = line (codes "pair " ++ quotation pair.0 ++ codes " " ++ quotation pair.1)

-- one line for each pair, in order
abbrev pub pair_lines : List Pair → List ℕ
pair_lines pairs = flat_map pair_line pairs

-- the lines `basic` and `pair` of a request: what a server reads that only decodes
abbrev pub decoded_lines : RequestView → List ℕ
decoded_lines v = basic_line (decoded_of v).basic ++ pair_lines (decoded_of v).pairs

-- all lines of a request, from `request` to the last `pair`
unfoldable pub request_lines : RequestView → List ℕ
request_lines v =
    request_line v.method (uri_text v.target)
    ++ authorization_line (option_map (λ value. value.bytes) (authorization_of v))
    ++ body_line v.body ++ decoded_lines v
