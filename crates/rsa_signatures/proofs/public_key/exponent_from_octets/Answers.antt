use Rattle.std.proofs.Common.{◌≡◌, ◌+◌, ◌*◌, ◌<◌, length, take, get_or, sym, ap, ◌∙◌, arith, rules}
use Rattle.modular_arithmetic.specs.Octets.{number}
use Rattle.modular_arithmetic.proofs.OctetNumbers.{number_onto-nil, number_onto-snoc, take_more}
use Rattle.rsa_signatures.proofs.Keys.{exponent_too_large}
use Rattle.rsa_signatures.proofs.public_key.exponent_from_octets.Goals as goal

pub loop-byte-init : goal.loop-byte-init
loop-byte-init c = sym (number_onto-nil 0)

pub returns-then-exponent-ge72057594037927936 : goal.returns-then-exponent-ge72057594037927936
returns-then-exponent-ge72057594037927936 c =
    exponent_too_large c.args.bytes.now c.loop-byte.byte-index c.loop-byte.exponent (search rules) c.loop-byte.invariant (search rules)

pub loop-byte-preserved : goal.loop-byte-preserved
loop-byte-preserved c =
    let l = c.loop-byte in
    let bs = c.args.bytes.now in
    let within : l.byte-index < length bs = search rules in
    let b = get_or bs l.byte-index 0 in
    let turn : l.exponent * 256 + b ≡ 256 * l.exponent + b = omega arith in
    turn ∙ ap (λ t. 256 * t + b) l.invariant ∙ sym (number_onto-snoc 0 (take l.byte-index bs) b) ∙ ap number (sym (take_more bs l.byte-index within))
