-- How long a text of bytes is.
use Rattle.std.proofs.Common.{◌≡◌, ℕ, List, [], length, length-append, arith}
use Rattle.base64.specs.Rfc4648.{encode_symbols, unpadded_len}
use Rattle.base64.proofs.RoundTrip.{length-encode_symbols}
use Rattle.oauth2_types.specs.Pkce.{alphabet, base64url}

pub length-base64url : (bytes : List ℕ) → length (base64url bytes) ≡ unpadded_len (length bytes)
unfolding base64url
length-base64url bytes =
    omega (arith, length-append (encode_symbols alphabet bytes) [], length-encode_symbols alphabet bytes)

pub ruleset lengths = (length-base64url)
