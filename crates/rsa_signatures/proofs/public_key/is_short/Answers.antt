use Rattle.std.proofs.Common.{length, get_or, sym, ◌∙◌, inl, inr, arith}
use Rattle.std.proofs.lemmas.Bool.{cases_lt, lt-ltb, le-ltb, ne_eqb}
use Rattle.modular_arithmetic.specs.Octets.{number}
use Rattle.rsa_signatures.specs.PublicKey.{least_modulus}
use Rattle.rsa_signatures.proofs.Keys.{short_below, short_first, long_first, long_above, least_modulus_is}
use Rattle.rsa_signatures.proofs.public_key.is_short.Goals as goal

pub returns-then-bytes-lt256 : goal.returns-then-bytes-lt256
returns-then-bytes-lt256 c =
    let bs = c.args.bytes.now in
    lt-ltb (length bs) 256 c.if-bytes-lt256.true
    ∙ sym (lt-ltb (number bs) least_modulus (short_below bs 255 least_modulus least_modulus_is (λ i. (c.type_inv.bytes i).fits) c.if-bytes-lt256.true))

pub returns-then-bytes-eq256 : goal.returns-then-bytes-eq256
returns-then-bytes-eq256 c =
    let bs = c.args.bytes.now in
    let first = get_or bs 0 0 in
    elim (cases_lt first 128) [
      | inl l ↦ lt-ltb first 128 l ∙ sym (lt-ltb (number bs) least_modulus (short_first bs 255 least_modulus least_modulus_is (λ i. (c.type_inv.bytes i).fits) c.if-bytes-eq256.true l))
      | inr l ↦ le-ltb first 128 l ∙ sym (le-ltb (number bs) least_modulus (long_first bs 255 least_modulus least_modulus_is c.if-bytes-eq256.true l))
    ]

pub returns-else-bytes-eq256 : goal.returns-else-bytes-eq256
returns-else-bytes-eq256 c =
    let bs = c.args.bytes.now in
    ne_eqb (length bs) 256 c.if-bytes-eq256.false
    ∙ sym (le-ltb (number bs) least_modulus (long_above bs 255 least_modulus least_modulus_is c.requires (omega arith)))
