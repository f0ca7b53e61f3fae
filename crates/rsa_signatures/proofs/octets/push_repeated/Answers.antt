use Rattle.std.proofs.Common.{◌%◌, replicate, sym, ap, ◌∙◌}
use Rattle.modular_arithmetic.specs.Octets.{number_onto}
use Rattle.modular_arithmetic.specs.Limbs.{limb_weight, value_below}
use Rattle.modular_arithmetic.proofs.OctetNumbers.{number_onto-nil, number_onto-snoc, push_same}
use Rattle.rsa_signatures.proofs.OctetNumbers.{replicate-suc}
use Rattle.rsa_signatures.proofs.octets.push_repeated.Goals as goal

pub loop-i-init : goal.loop-i-init
loop-i-init c = record {
  limbs = c.requires.limbs;
  value = ap (λ t. t % limb_weight c.args.len) (sym (number_onto-nil (value_below c.args.limbs.now c.args.len)));
}

pub loop-i-preserved : goal.loop-i-preserved
loop-i-preserved c =
    let len = c.args.len in
    let w = limb_weight len in
    let v = value_below c.args.limbs.now len in
    let b = c.args.octet in
    let i = c.loop-i.i in
    record {
      limbs = c.push.ensures.limbs;
      value = c.push.ensures.value
          ∙ push_same (value_below c.loop-i.limbs len) (number_onto v (replicate i b)) b w c.loop-i.invariant.value
          ∙ ap (λ t. t % w) (sym (number_onto-snoc v (replicate i b) b) ∙ ap (number_onto v) (sym (replicate-suc i b)));
    }
