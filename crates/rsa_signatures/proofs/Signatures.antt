-- What the check of a signature found out.
use Rattle.std.proofs.Common.{◌≡◌, ℕ, ◌%◌, ◌^◌, ◌<◌, List, length, sym, ap, ◌∙◌, le_antisymm, subst}
use Rattle.rsa_signatures.specs.declared.signature_scheme.SignatureScheme.{SignatureScheme}
use Rattle.modular_arithmetic.specs.Octets.{number}
use Rattle.rsa_signatures.specs.Octets.{HasOctets}
use Rattle.rsa_signatures.specs.Signature.{IsEncoded, IsSignature}
use Rattle.rsa_signatures.proofs.OctetNumbers.{HasOctets-one}

pub size_is : (scheme : SignatureScheme) (n e size : ℕ) (m s : List ℕ) → HasOctets n size → IsSignature scheme n e m s → length s ≡ size
size_is scheme n e size m s k h = le_antisymm (HasOctets-one n (length s) size h.has_size k) (HasOctets-one n size (length s) k h.has_size)

pub is_signature : (scheme : SignatureScheme) (n e size : ℕ) (m s : List ℕ) (signed found : ℕ) → HasOctets n size → length s ≡ size
    → signed ≡ number s → signed < n → found ≡ signed ^ e % n → IsEncoded scheme n size m found → IsSignature scheme n e m s
is_signature scheme n e size m s signed found k l si lt fo h = record {
  has_size = rw l k;
  is_below = rw (← si) lt;
  is_encoded = subst (λ t. IsEncoded scheme n t m (number s ^ e % n)) (sym l) (subst (IsEncoded scheme n size m) (fo ∙ ap (λ t. t ^ e % n) si) h);
}

pub is_encoded : (scheme : SignatureScheme) (n e size : ℕ) (m s : List ℕ) (signed found : ℕ) → length s ≡ size
    → signed ≡ number s → found ≡ signed ^ e % n → IsSignature scheme n e m s → IsEncoded scheme n size m found
is_encoded scheme n e size m s signed found l si fo h =
    subst (λ t. IsEncoded scheme n t m found) l (subst (IsEncoded scheme n (length s) m) (sym (fo ∙ ap (λ t. t ^ e % n) si)) h.is_encoded)
