-- HTTP Basic credentials (RFC 6749, 2.3.1): what a client writes, and what a server reads.
use Rattle.std.specs.Prelude.{ℕ, ◌+◌, ◌==◌, bytes_eq, List, ◌∷◌, ◌++◌, take, drop, codes, if◌then◌else◌, Option, None, option_map, position}
use Rattle.std.specs.declared.result.Result.{Result}
use Rattle.std.specs.declared.result.Result.TheVariants.{Ok, Err}
use Rattle.form_urlencoded.specs.Form.{decode, byte_serialize}
use Rattle.base64.specs.declared.decode.DecodeError.{DecodeError}
use Rattle.base64.specs.Engines.{standard}
use Rattle.base64.specs.GeneralPurpose.{encode_of, decode_of}
use Rattle.oauth2_form.specs.Pairs.{Pair}

-- the colon between the identifier and the secret (RFC 7617, 2)
abbrev pub colon : ℕ
colon = 58

-- the two halves of a text split at its first colon, each form-decoded; `None` without a colon
unfoldable pub pair_of_text : List ℕ → Option Pair
pair_of_text text =
    option_map (λ i. (decode (take i text), decode (drop (i + 1) text))) (position (λ b. b == colon) text)

-- the two halves of the base64-decoded text, each form-decoded; `None` if base64 decoding failed
abbrev pub pair_of_decoded : Result (List ℕ) DecodeError → Option Pair
pair_of_decoded (Ok text) = pair_of_text text
pair_of_decoded (Err e) = None

-- the identifier and the secret that an Authorization value holds: `Basic ` and the padded standard
-- base64 of such a text (RFC 7617, 2)
unfoldable pub basic : List ℕ → Option Pair
basic value =
    if bytes_eq (take 6 value) (codes "Basic ") then pair_of_decoded (decode_of standard (drop 6 value)) else None

-- the identifier, a colon and the secret, both form-encoded (RFC 6749, 2.3.1)
abbrev pub basic_text : List ℕ → List ℕ → List ℕ
basic_text id secret = byte_serialize id ++ colon ∷ byte_serialize secret

-- the Authorization value for an identifier and a secret: `Basic ` and the base64 of that text
abbrev pub basic_value : List ℕ → List ℕ → List ℕ
basic_value id secret = codes "Basic " ++ encode_of standard (basic_text id secret)
