use Rattle.std.proofs.Common.{◌≡◌, ℕ, Result, ◌%◌, ◌^◌, ◌<◌, ◌≤◌, length, false, nat_eq, nat_lt, nat_le, Ok, sym, ap, ◌∙◌, arith, rules, get_or, lt_of_lt_of_le, lit<}
use Rattle.std.proofs.lemmas.Bool.{lt-ltb, le-ltb, le-leb, lt-leb, eq-eqb, ne_eqb, ltb-false}
use Rattle.std.proofs.lemmas.List.{get_or-take}
use Rattle.modular_arithmetic.specs.Octets.{number, AreOctets}
use Rattle.rsa_signatures.specs.Octets.{HasOctets}
use Rattle.rsa_signatures.specs.PublicKey.{least_modulus, modulus_limit, PublicKey}
use Rattle.rsa_signatures.specs.declared.key_error.RsaKeyError.{RsaKeyError}
use Rattle.rsa_signatures.proofs.Keys.{size_least, size_greatest, has_bytes, value_below-parity, least_modulus-above_one, HasNoFault, has_no_fault, key_of-even_modulus, key_of-large_exponent, key_of-small_exponent, key_of-even_exponent, key_of-taken}
use Rattle.rsa_signatures.proofs.public_key.RsaPublicKey.new.Goals as goal

pub number-n-requires : goal.number-n-requires
number-n-requires c =
    let bs = c.significant-bytes.result.now in
    let most = size_greatest bs c.significant-bytes.ensures.first (sym c.is_long.ensures ∙ c.if-is_long.false) in
    (lit< tt, (omega arith, omega arith))

pub returns-then-n-eq0 : goal.returns-then-n-eq0
returns-then-n-eq0 c =
    let bs = c.significant-bytes.result.now in
    let m = number c.args.modulus.now in
    let e = c.significant-bytes.ensures.number in
    let bytes : AreOctets bs = λ i. search rules in
    let short : nat_lt (number bs) least_modulus ≡ false = sym c.is_short.ensures ∙ c.if-is_short.false in
    let long : nat_le modulus_limit (number bs) ≡ false = sym c.is_long.ensures ∙ c.if-is_long.false in
    let least = size_least bs bytes short in
    let parity = value_below-parity c.number-n.result c.div_ceil-len.result (omega arith) in
    let even : number bs % 2 ≡ 0 = ap (λ t. t % 2) (sym c.number-n.ensures) ∙ parity ∙ c.if-n-eq0.true in
    sym (key_of-even_modulus m (number c.args.exponent.now) (ap (λ t. nat_lt t least_modulus) (sym e) ∙ short) (ap (λ t. nat_le modulus_limit t) (sym e) ∙ long)
    (ap (λ t. nat_eq (t % 2) 0) (sym e) ∙ eq-eqb (number bs % 2) 0 even))

pub returns-in_default : goal.returns-in_default
returns-in_default c =
    let bs = c.significant-bytes.result.now in
    let short : nat_lt (number bs) least_modulus ≡ false = sym c.is_short.ensures ∙ c.if-is_short.false in
    let long : nat_le modulus_limit (number bs) ≡ false = sym c.is_long.ensures ∙ c.if-is_long.false in
    let least = size_least bs (λ i. search rules) short in
    let good : HasNoFault (number c.args.modulus.now) =
    has_no_fault bs c.number-n.result _ c.div_ceil-len.result c.significant-bytes.ensures.number short long (omega arith) c.number-n.ensures c.if-n-eq0.false in
    sym (key_of-large_exponent _ (number c.args.exponent.now) good (le-leb (2 ^ 64) (number c.args.exponent.now) c.in_default.ensures))

pub returns-then-exponent-lt3 : goal.returns-then-exponent-lt3
returns-then-exponent-lt3 c =
    let bs = c.significant-bytes.result.now in
    let short : nat_lt (number bs) least_modulus ≡ false = sym c.is_short.ensures ∙ c.if-is_short.false in
    let long : nat_le modulus_limit (number bs) ≡ false = sym c.is_long.ensures ∙ c.if-is_long.false in
    let least = size_least bs (λ i. search rules) short in
    let good : HasNoFault (number c.args.modulus.now) =
    has_no_fault bs c.number-n.result _ c.div_ceil-len.result c.significant-bytes.ensures.number short long (omega arith) c.number-n.ensures c.if-n-eq0.false in
    let is : c.in-Some.exponent ≡ number c.args.exponent.now = c.in-Some.ensures in
    let fits : number c.args.exponent.now < 2 ^ 64 = omega arith in
    sym (key_of-small_exponent _ (number c.args.exponent.now) good (lt-leb (2 ^ 64) (number c.args.exponent.now) fits) (lt-ltb (number c.args.exponent.now) 3 (omega arith)))

pub returns-then-exponent-eq0 : goal.returns-then-exponent-eq0
returns-then-exponent-eq0 c =
    let bs = c.significant-bytes.result.now in
    let short : nat_lt (number bs) least_modulus ≡ false = sym c.is_short.ensures ∙ c.if-is_short.false in
    let long : nat_le modulus_limit (number bs) ≡ false = sym c.is_long.ensures ∙ c.if-is_long.false in
    let least = size_least bs (λ i. search rules) short in
    let good : HasNoFault (number c.args.modulus.now) =
    has_no_fault bs c.number-n.result _ c.div_ceil-len.result c.significant-bytes.ensures.number short long (omega arith) c.number-n.ensures c.if-n-eq0.false in
    let is : c.in-Some.exponent ≡ number c.args.exponent.now = c.in-Some.ensures in
    let fits : number c.args.exponent.now < 2 ^ 64 = omega arith in
    let least-e : 3 ≤ number c.args.exponent.now = omega arith in
    sym (key_of-even_exponent _ (number c.args.exponent.now) good (lt-leb (2 ^ 64) (number c.args.exponent.now) fits) (le-ltb (number c.args.exponent.now) 3 least-e) (eq-eqb (number c.args.exponent.now % 2) 0 (ap (λ t. t % 2) (sym is) ∙ c.if-exponent-eq0.true)))

pub weight_square-square-requires : goal.weight_square-square-requires
weight_square-square-requires c =
    let bs = c.significant-bytes.result.now in
    let bytes : AreOctets bs = λ i. search rules in
    let least = size_least bs bytes (sym c.is_short.ensures ∙ c.if-is_short.false) in
    let most = size_greatest bs c.significant-bytes.ensures.first (sym c.is_long.ensures ∙ c.if-is_long.false) in
    let above = ltb-false (number bs) least_modulus (sym c.is_short.ensures ∙ c.if-is_short.false) in
    (lit< tt, (omega arith, (omega arith, rw c.number-n.ensures (lt_of_lt_of_le least_modulus-above_one above))))

pub with_zeros-requires : goal.with_zeros-requires
with_zeros-requires c =
    let bs = c.significant-bytes.result.now in
    let most = size_greatest bs c.significant-bytes.ensures.first (sym c.is_long.ensures ∙ c.if-is_long.false) in
    omega arith

pub bits-requires-clause-some : goal.bits-requires-clause-some
bits-requires-clause-some c =
    let bs = c.significant-bytes.result.now in
    let least = size_least bs (λ i. search rules) (sym c.is_short.ensures ∙ c.if-is_short.false) in
    omega arith

pub bits-requires-clause-first : goal.bits-requires-clause-first
bits-requires-clause-first c =
    let bs = c.significant-bytes.result.now in
    let least = size_least bs (λ i. search rules) (sym c.is_short.ensures ∙ c.if-is_short.false) in
    c.significant-bytes.ensures.first (omega arith)

pub invariant_of-result : goal.invariant_of-result
invariant_of-result c =
    let bs = c.significant-bytes.result.now in
    let bytes : AreOctets bs = λ i. search rules in
    let least = size_least bs bytes (sym c.is_short.ensures ∙ c.if-is_short.false) in
    let most = size_greatest bs c.significant-bytes.ensures.first (sym c.is_long.ensures ∙ c.if-is_long.false) in
    let sized : HasOctets (number bs) (length bs) = has_bytes bs bytes c.significant-bytes.ensures.first (omega arith) in
    let parity = value_below-parity c.number-n.result c.div_ceil-len.result (omega arith) in
    let some : 0 < length bs = omega arith in
    let first-is : get_or bs 0 0 ≡ get_or c.with_zeros.result 0 0 = ap (λ t. get_or t 0 0) (sym c.with_zeros.ensures) ∙ get_or-take (length bs) c.with_zeros.result 0 0 some in
    let first : 0 < get_or bs 0 0 = c.significant-bytes.ensures.first some in
    record {
      low = omega arith;
      high = omega arith;
      least_size = least;
      fits = omega arith;
      has_size = rw c.number-n.ensures sized;
      least_bits = omega (arith, c.bits.ensures.least);
      most_bits = omega (arith, c.bits.ensures.most);
      has_bits = rw c.number-n.ensures c.bits.ensures.has_bits;
      octets_are = ap number c.with_zeros.ensures ∙ sym c.number-n.ensures;
      first_octet = omega arith;
      odd = parity ∙ omega (arith, c.if-n-eq0.false);
      inverse_is = c.negated_inverse.ensures;
      square_below = c.weight_square-square.ensures.below;
      square_is = c.weight_square-square.ensures.value;
    }

pub returns : goal.returns
returns c =
    let bs = c.significant-bytes.result.now in
    let short : nat_lt (number bs) least_modulus ≡ false = sym c.is_short.ensures ∙ c.if-is_short.false in
    let long : nat_le modulus_limit (number bs) ≡ false = sym c.is_long.ensures ∙ c.if-is_long.false in
    let least = size_least bs (λ i. search rules) short in
    let good : HasNoFault (number c.args.modulus.now) =
    has_no_fault bs c.number-n.result _ c.div_ceil-len.result c.significant-bytes.ensures.number short long (omega arith) c.number-n.ensures c.if-n-eq0.false in
    let is : c.in-Some.exponent ≡ number c.args.exponent.now = c.in-Some.ensures in
    let fits : number c.args.exponent.now < 2 ^ 64 = omega arith in
    let least-e : 3 ≤ number c.args.exponent.now = omega arith in
    let taken = key_of-taken (number c.args.modulus.now) (number c.args.exponent.now) good (lt-leb (2 ^ 64) (number c.args.exponent.now) fits) (le-ltb (number c.args.exponent.now) 3 least-e)
    (ne_eqb (number c.args.exponent.now % 2) 0 (λ z. c.if-exponent-eq0.false (ap (λ t. t % 2) is ∙ z))) in
    let key : ℕ → ℕ → Result PublicKey RsaKeyError = λ t u. Ok (record { modulus = t; exponent = u }) in
    ap (λ t. key t c.in-Some.exponent) (ap number c.with_zeros.ensures ∙ c.significant-bytes.ensures.number) ∙ ap (key (number c.args.modulus.now)) is ∙ sym taken
