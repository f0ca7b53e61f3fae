-- A JSON Web Key that signatures can be checked with (RFC 7517, 4; RFC 7518, 6; RFC 8037, 2).
use Rattle.std.specs.Prelude.{ℕ, List, length, codes, bytes_eq, ◌==◌, if◌then◌else◌, Option, Some, None, option_and_then, Result, Ok, Err}
use Rattle.serde_json.specs.Data.{Data}
use Rattle.serde_json.specs.Find.{get, as_str}
use Rattle.modular_arithmetic.specs.Octets.{number}
use Rattle.rsa_signatures.specs.PublicKey.{PublicKey as RsaKey, key_of as rsa_key_of}
use Rattle.rsa_signatures.specs.declared.key_error.RsaKeyError.{RsaKeyError}
use Rattle.ecdsa_signatures.specs.Curve.{coordinate_size}
use Rattle.ecdsa_signatures.specs.PublicKey.{PublicKey as EcdsaKey, key_of as ecdsa_key_of}
use Rattle.ecdsa_signatures.specs.declared.curve.EllipticCurve.{EllipticCurve}
use Rattle.ecdsa_signatures.specs.declared.key_error.EcdsaKeyError.{EcdsaKeyError}
use Rattle.eddsa_signatures.specs.PublicKey.{PublicKey as EddsaKey, key_of as eddsa_key_of}
use Rattle.eddsa_signatures.specs.declared.key_error.EddsaKeyError.{EddsaKeyError}
use Rattle.oauth2_keys.specs.declared.key_error.KeyMember.{KeyMember}
use Rattle.oauth2_keys.specs.declared.key_error.KeyMember.TheVariants as member
use Rattle.oauth2_keys.specs.declared.key_error.KeyError.{KeyError}
use Rattle.oauth2_keys.specs.declared.key_error.KeyError.TheVariants as error
use Rattle.oauth2_keys.specs.declared.public_key.PublicKey.{PublicKey}
use Rattle.oauth2_keys.specs.declared.public_key.PublicKey.TheVariants as kind
use Rattle.oauth2_keys.specs.Curves.{curve_named}
use Rattle.oauth2_keys.specs.Members.{KeyReading, ◌⊛◌, key_then, is_private, optional_text, optional_texts, needed_text, octets}

-- the members `use`, `key_ops`, `alg` and `kid` (RFC 7517, 4.2 to 4.5), and the public key
pub record Key : Type 0 where
  pub key_use : Option (List ℕ)
  pub operations : Option (List (List ℕ))
  pub algorithm : Option (List ℕ)
  pub key_id : Option (List ℕ)
  pub public_key : PublicKey

-- `Key` from its fields, in their order
abbrev pub key : Option (List ℕ) → Option (List (List ℕ)) → Option (List ℕ) → Option (List ℕ)
    → PublicKey → Key
key u o a i k = record { key_use = u; operations = o; algorithm = a; key_id = i; public_key = k }

-- an RSA key, or its fault as a `KeyError`
abbrev pub rsa_of : Result RsaKey RsaKeyError → KeyReading PublicKey
rsa_of (Ok k) = Ok (kind.Rsa k)
rsa_of (Err e) = Err (error.Rsa e)

-- the RSA key of the members `n` and `e` (RFC 7518, 6.3.1)
abbrev pub rsa_key : Data → KeyReading PublicKey
rsa_key d =
    key_then (octets member.Modulus d) (λ n.
    key_then (octets member.Exponent d) (λ e. rsa_of (rsa_key_of (number n) (number e))))

-- a coordinate `x` or `y`, which has as many octets as those of the curve: 32 on P-256, 48 on P-384
-- and 66 on P-521 (RFC 7518, 6.2.1.2 and 6.2.1.3)
abbrev pub coordinate : EllipticCurve → KeyMember → Data → KeyReading (List ℕ)
coordinate curve m d =
    key_then (octets m d)
    (λ c. if length c == coordinate_size curve then Ok c else Err (error.WrongSize m))

-- a key on a curve, or its fault as a `KeyError`
abbrev pub ecdsa_of : Result EcdsaKey EcdsaKeyError → KeyReading PublicKey
ecdsa_of (Ok k) = Ok (kind.Ecdsa k)
ecdsa_of (Err e) = Err (error.Ecdsa e)

-- the key on this curve of the members `x` and `y` (RFC 7518, 6.2.1)
abbrev pub curve_key : EllipticCurve → Data → KeyReading PublicKey
curve_key curve d =
    key_then (coordinate curve member.X d) (λ x.
    key_then (coordinate curve member.Y d) (λ y. ecdsa_of (ecdsa_key_of curve x y)))

-- the key on the curve that `crv` names; an error if the name is not known
abbrev pub key_on : Option EllipticCurve → Data → KeyReading PublicKey
key_on None d = Err error.UnknownCurve
key_on (Some curve) d = curve_key curve d

-- the key of the members `crv`, `x` and `y` (RFC 7518, 6.2.1)
abbrev pub elliptic_key : Data → KeyReading PublicKey
elliptic_key d = key_then (needed_text member.Curve d) (λ name. key_on (curve_named name) d)

-- a key of Ed25519, or its fault as a `KeyError`
abbrev pub eddsa_of : Result EddsaKey EddsaKeyError → KeyReading PublicKey
eddsa_of (Ok k) = Ok (kind.Eddsa k)
eddsa_of (Err e) = Err (error.Eddsa e)

-- the key of Ed25519 of the member `x`, which has its octets (RFC 8037, 2)
abbrev pub eddsa_key : Data → KeyReading PublicKey
eddsa_key d = key_then (octets member.X d) (λ x. eddsa_of (eddsa_key_of x))

-- the public key of an octet key pair with the members `crv` and `x`; the curve has to be Ed25519
-- (RFC 8037, 2)
abbrev pub octet_key : Data → KeyReading PublicKey
octet_key d =
    key_then (needed_text member.Curve d) (λ name.
    if bytes_eq name (codes "Ed25519") then eddsa_key d else Err error.UnknownCurve)

-- the public key of this key type, which has to be `RSA`, `EC` or `OKP` (RFC 7517, 4.1; RFC 7518,
-- 6.1; RFC 8037, 2)
abbrev pub of_type : List ℕ → Data → KeyReading PublicKey
of_type key_type d =
    if bytes_eq key_type (codes "RSA") then rsa_key d
    else (if bytes_eq key_type (codes "EC") then elliptic_key d
    else (if bytes_eq key_type (codes "OKP") then octet_key d
    else Err error.UnknownType))

-- the public key of a JSON Web Key, by its member `kty` (RFC 7517, 4.1)
unfoldable pub public_key : Data → KeyReading PublicKey
public_key d = key_then (needed_text member.KeyType d) (λ key_type. of_type key_type d)

-- the key of a JSON value: a private key is refused; other members are ignored (RFC 7517, 4)
abbrev pub key_reading : Data → KeyReading Key
key_reading d =
    if is_private d then Err error.Private
    else (Ok key
    ⊛ optional_text member.Use d
    ⊛ optional_texts member.Operations d
    ⊛ optional_text member.Algorithm d
    ⊛ optional_text member.KeyId d
    ⊛ public_key d)

-- ---- a key that cannot be used

-- a key that cannot be used: its key identifier, if it has one, and its fault
pub record Unusable : Type 0 where
  pub key_id : Option (List ℕ)
  pub fault : KeyError

-- the key identifier (`kid`) of a JSON value, if it is a string
abbrev pub told_key_id : Data → Option (List ℕ)
told_key_id d = option_and_then as_str (get (codes "kid") d)
