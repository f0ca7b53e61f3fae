use Rattle.std.proofs.Common.{◌≡◌, ◌*◌, ◌-◌, ◌^◌, ap, ◌∙◌, sym, arith, get_or}
use Rattle.modular_arithmetic.specs.Limbs.{limb_weight}
use Rattle.modular_arithmetic.proofs.LimbValues.{value_below-zero, value_below-suc, zeros}
use Rattle.modular_arithmetic.proofs.OctetNumbers.{weight_is}
use Rattle.rsa_signatures.proofs.OctetNumbers.{number-zeros}
use Rattle.rsa_signatures.proofs.octets.octets_of.Goals as goal

pub loop-i-init : goal.loop-i-init
loop-i-init c = record {
  number = number-zeros 1024 ∙ sym (value_below-zero c.args.limbs.now);
  zeros = λ k h. zeros 1024 k;
}

pub loop-i-preserved : goal.loop-i-preserved
loop-i-preserved c =
    let i = c.loop-i.i in
    let limb = get_or c.args.limbs.now i 0 in
    let places : 1024 - (1024 - 8 * i) ≡ 8 * i = omega arith in
    let weight : 256 ^ (1024 - (1024 - 8 * i)) ≡ limb_weight i = ap (λ t. 256 ^ t) places ∙ sym (weight_is i) in
    record {
      number = omega (arith, c.put.ensures.number, c.loop-i.invariant.number, value_below-suc c.args.limbs.now i, ap (λ t. limb * t) weight);
      zeros = λ k h. c.put.ensures.zeros k (omega arith);
    }
