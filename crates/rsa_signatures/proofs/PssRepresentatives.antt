-- What the check of RSASSA-PSS found out.
use Rattle.std.proofs.Common.{◌≡◌, ℕ, ◌-◌, ◌*◌, ◌^◌, ◌<◌, ◌↔◌, List, Bool, IsTrue, subst, sym}
use Rattle.hash_functions.specs.declared.hash_function.HashFunction.{HashFunction}
use Rattle.rsa_signatures.specs.Octets.{HasBits, octets_of}
use Rattle.rsa_signatures.specs.Pss.{IsPssEncoding, IsPssRepresentative, em_size}
use Rattle.rsa_signatures.proofs.OctetNumbers.{HasBits-one}

pub representative : (hash : HashFunction) (n bits m : ℕ) (message em : List ℕ) (r : Bool) → HasBits n bits → m < 256 ^ em_size (bits - 1)
    → em ≡ octets_of (em_size (bits - 1)) m → IsTrue r ↔ IsPssEncoding hash (8 * em_size (bits - 1) - (bits - 1)) message em
    → IsTrue r ↔ IsPssRepresentative hash n message m
representative hash n bits m message em r b fits e h = (
  λ t. record {
    mod_bits = bits;
    has_bits = b;
    fits = fits;
    is_encoding = subst (IsPssEncoding hash (8 * em_size (bits - 1) - (bits - 1)) message) e (h.0 t);
  },
  λ p. h.1 (subst (IsPssEncoding hash (8 * em_size (bits - 1) - (bits - 1)) message) (sym e)
      (subst (λ k. IsPssEncoding hash (8 * em_size (k - 1) - (k - 1)) message (octets_of (em_size (k - 1)) m)) (HasBits-one n p.mod_bits bits p.has_bits b) p.is_encoding)),
)

pub representative_fits : (hash : HashFunction) (n bits m : ℕ) (message : List ℕ) → HasBits n bits → IsPssRepresentative hash n message m → m < 256 ^ em_size (bits - 1)
representative_fits hash n bits m message b p = subst (λ k. m < 256 ^ em_size (k - 1)) (HasBits-one n p.mod_bits bits p.has_bits b) p.fits
