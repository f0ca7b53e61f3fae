use Rattle.std.proofs.Common.{◌≡◌, ℕ, ◌-◌, ◌%◌, ◌^◌, ◌<◌, take, lit<, rules, subst, ap, ◌∙◌, sym, arith, IsTrue, false}
use Rattle.std.proofs.lemmas.Nat.{leading_length}
use lib.Count.{count_leading_zeros}
use Rattle.modular_arithmetic.specs.Octets.{number}
use Rattle.modular_arithmetic.specs.Limbs.{value_below}
use Rattle.rsa_signatures.specs.PublicKey.{PublicKey}
use Rattle.rsa_signatures.specs.Signature.{IsSignature}
use Rattle.rsa_signatures.proofs.Signatures.{size_is, is_signature, is_encoded}
use Rattle.rsa_signatures.proofs.public_key.RsaPublicKey.verify.Goals as goal

pub returns-then-signature-self : goal.returns-then-signature-self
returns-then-signature-self c =
    let k = c.self.inside in
    let t = c.args.scheme in
    let n = value_below k.n k.len in
    let modulus-is : n ≡ number (take k.size k.octets) = sym c.self.invariant.octets_are in
    let m = c.args.message.now in
    let s = c.args.signature.now in
    subst (λ (p : PublicKey). (IsTrue false → IsSignature t p.modulus p.exponent m s) × (IsSignature t p.modulus p.exponent m s → IsTrue false)) c.self.view_is
    (subst (λ (u : ℕ). (IsTrue false → IsSignature t u k.exponent m s) × (IsSignature t u k.exponent m s → IsTrue false)) modulus-is
    (λ f. absurd (let g : ⊥ = grind arith in g), λ h. absurd (c.if-signature-self.true (size_is t n k.exponent k.size m s c.self.invariant.has_size h))))

pub power-representative-requires : goal.power-representative-requires
power-representative-requires c =
    let k = c.self.inside in
    let v = c.self.invariant in
    let exponent = leading_length 64 k.exponent (search rules) in
    let bits : 64 - count_leading_zeros 64 k.exponent ≡ exponent.0 = omega (arith, exponent.1) in
    let below : value_below c.limb.result k.len < 2 ^ (64 - count_leading_zeros 64 k.exponent) = rw (c.limb.ensures k.len v.low, bits) exponent.2 in
    (lit< tt, (v.low, (v.high, (omega (arith, v.low), (below, (v.odd, (v.inverse_is, (v.square_below, v.square_is))))))))

pub returns : goal.returns
returns c =
    let k = c.self.inside in
    let t = c.args.scheme in
    let n = value_below k.n k.len in
    let modulus-is : n ≡ number (take k.size k.octets) = sym c.self.invariant.octets_are in
    let m = c.args.message.now in
    let s = c.args.signature.now in
    let signed = value_below c.number-signed.result k.len in
    let found = value_below c.power-representative.result k.len in
    let found-is : found ≡ signed ^ k.exponent % n = c.power-representative.ensures ∙ ap (λ t. signed ^ t % n) (c.limb.ensures k.len c.self.invariant.low) in
    let h = c.is_less.ensures in
    let lt : signed < n = grind arith in
    subst (λ (p : PublicKey). (IsTrue c.is_encoded.result → IsSignature t p.modulus p.exponent m s) × (IsSignature t p.modulus p.exponent m s → IsTrue c.is_encoded.result)) c.self.view_is
    (subst (λ (u : ℕ). (IsTrue c.is_encoded.result → IsSignature t u k.exponent m s) × (IsSignature t u k.exponent m s → IsTrue c.is_encoded.result)) modulus-is (
      λ g. is_signature t n k.exponent k.size m s signed found c.self.invariant.has_size c.if-signature-self.false c.number-signed.ensures lt found-is ((c.is_encoded.ensures n c.self.invariant.has_bits).0 g),
      λ g. (c.is_encoded.ensures n c.self.invariant.has_bits).1 (is_encoded t n k.exponent k.size m s signed found c.if-signature-self.false c.number-signed.ensures found-is g),
    ))
