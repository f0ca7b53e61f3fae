-- The hash of the code in an ID token of the front channel (OpenID Connect Core 1.0, 3.3.2.10 and
-- 3.3.2.11).
use Rattle.std.specs.Prelude.{ℕ, List, Bool, false, bytes_eq, codes, Option, Some, None, option_and_then}
use Rattle.serde_json.specs.Find.{get, as_str}
use Rattle.oauth2_types.specs.Pkce.{base64url}
use Rattle.oauth2_openid.specs.Token.{DecodedToken}
use Rattle.oauth2_openid.specs.TokenRules.{half_digest}

-- 3.3.2.11: the claim `c_hash`, if the token has it and it is a text
abbrev pub code_hash_of : DecodedToken → Option (List ℕ)
code_hash_of token = option_and_then as_str (get (codes "c_hash") token.claims.others)

-- whether the text is that half of a digest in base64url; without a half it is not
abbrev pub encodes_half : List ℕ → Option (List ℕ) → Bool
encodes_half told None = false
encodes_half told (Some half) = bytes_eq told (base64url half)

-- 3.3.2.10: whether the text is the left half of the code's digest by the hash of the header's
-- `alg`, in base64url
abbrev pub is_code_hash : List ℕ → List ℕ → List ℕ → Bool
is_code_hash algorithm code told = encodes_half told (half_digest algorithm code)
