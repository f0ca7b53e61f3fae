-- Which key of a set a signature is checked with (OpenID Connect Core 1.0, 10.1; RFC 7517, 4).
use Rattle.std.specs.Prelude.{ℕ, List, [], ◌∷◌, codes, bytes_eq, Bool, true, false, ◌&&◌, if◌then◌else◌, Option, Some, None, is_some, Result, Ok, Err}
use Rattle.oauth2_openid.specs.Checks.{is_among}
use Rattle.oauth2_keys.specs.declared.algorithm.SignatureAlgorithm.{SignatureAlgorithm}
use Rattle.oauth2_keys.specs.declared.public_key.PublicKey.{PublicKey}
use Rattle.oauth2_keys.specs.declared.public_key.PublicKey.TheVariants.{Rsa, Ecdsa, Eddsa}
use Rattle.oauth2_keys.specs.declared.key_error.KeyError.{KeyError}
use Rattle.oauth2_keys.specs.declared.json_web_key.ListedKey.{ListedKey}
use Rattle.oauth2_keys.specs.declared.json_web_key.ListedKey.TheVariants.{Usable, Unusable}
use Rattle.oauth2_keys.specs.declared.signature_error.SignatureError.{SignatureError}
use Rattle.oauth2_keys.specs.declared.signature_error.SignatureError.TheVariants as error
use Rattle.oauth2_keys.specs.Algorithm.{algorithm_name, is_eddsa, is_of_curve, rsa_scheme}
use Rattle.oauth2_keys.specs.Key.{Key}

-- RFC 7517, 4.2: the use is absent, or `sig`
abbrev pub fits_use : Option (List ℕ) → Bool
fits_use None = true
fits_use (Some key_use) = bytes_eq key_use (codes "sig")

-- RFC 7517, 4.3: the operations are absent, or `verify` is one of them
abbrev pub fits_operations : Option (List (List ℕ)) → Bool
fits_operations None = true
fits_operations (Some operations) = is_among (codes "verify") operations

-- RFC 7517, 4.4: the key's algorithm is absent, or the token's
abbrev pub fits_algorithm : Option (List ℕ) → SignatureAlgorithm → Bool
fits_algorithm None algorithm = true
fits_algorithm (Some name) algorithm = bytes_eq name (algorithm_name algorithm)

-- RFC 7515, 4.1.4: if the token has a key identifier (`kid`), it is the key's
abbrev pub fits_key_id : Option (List ℕ) → Option (List ℕ) → Bool
fits_key_id key_id None = true
fits_key_id None (Some told) = false
fits_key_id (Some key_id) (Some told) = bytes_eq key_id told

-- RFC 7518, 3.1: the key has the type that the algorithm requires: RSA for one with an RSA scheme
-- (3.3 and 3.5), the curve of the algorithm for ES256, ES384 and ES512 (3.4), and Ed25519 for EdDSA
-- (RFC 8037, 3.1), also by their names of RFC 9864, 2
abbrev pub fits_type : PublicKey → SignatureAlgorithm → Bool
fits_type (Rsa key) algorithm = is_some (rsa_scheme algorithm)
fits_type (Ecdsa key) algorithm = is_of_curve key.curve algorithm
fits_type (Eddsa key) algorithm = is_eddsa algorithm

-- whether a token with this algorithm and this key identifier may be signed by the key
abbrev pub is_for : SignatureAlgorithm → Option (List ℕ) → Key → Bool
is_for algorithm told key =
    fits_use key.key_use
    && fits_operations key.operations
    && fits_algorithm key.algorithm algorithm
    && fits_key_id key.key_id told
    && fits_type key.public_key algorithm

-- the usable keys of a set that may have signed a token with this algorithm and key identifier
abbrev pub candidates : SignatureAlgorithm → Option (List ℕ) → List ListedKey → List PublicKey
candidates algorithm told [] = []
candidates algorithm told (Usable k ∷ ks) =
    if is_for algorithm told k then k.public_key ∷ candidates algorithm told ks else candidates algorithm told ks
candidates algorithm told (Unusable u ∷ ks) = candidates algorithm told ks

-- the fault of the first unusable key with this key identifier
abbrev pub fault_of : List ℕ → List ListedKey → Option KeyError
fault_of told [] = None
fault_of told (Usable k ∷ ks) = fault_of told ks
fault_of told (Unusable u ∷ ks) =
    if fits_key_id u.key_id (Some told) then Some u.fault else fault_of told ks

-- the error if no key may have signed the token: `UnusableKey` with this fault, or else `NoKey`
abbrev pub named_fault : Option KeyError → SignatureError
named_fault None = error.NoKey
named_fault (Some fault) = error.UnusableKey fault

-- the error for a token with this key identifier, or with none, if no key may have signed it
abbrev pub why_none : Option (List ℕ) → List ListedKey → SignatureError
why_none None keys = error.NoKey
why_none (Some told) keys = named_fault (fault_of told keys)

-- the only key of a list; this error if the list is empty; `AmbiguousKey` if it has several
abbrev pub sole : List PublicKey → SignatureError → Result PublicKey SignatureError
sole [] none = Err none
sole (k ∷ []) none = Ok k
sole (k ∷ j ∷ ks) none = Err error.AmbiguousKey

-- the key with which a token with this algorithm and this key identifier is checked
abbrev pub chosen_key : List ListedKey → SignatureAlgorithm → Option (List ℕ)
    → Result PublicKey SignatureError
chosen_key keys algorithm told = sole (candidates algorithm told keys) (why_none told keys)
