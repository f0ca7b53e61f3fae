use Rattle.std.proofs.Common.{◌≡◌, ◌+◌, ◌-◌, ◌*◌, ◌/◌, ◌%◌, ◌^◌, ◌≤◌, suc, length, set, bit_and, ap, ◌∙◌, arith, rules, pow-suc, add-one, get_or-set_other, mul-le-mul_right}
use Rattle.std.proofs.lemmas.Nat.{and_mask}
use Rattle.modular_arithmetic.specs.Octets.{number}
use Rattle.rsa_signatures.proofs.OctetNumbers.{number_onto-set, put_turn}
use Rattle.rsa_signatures.proofs.octets.put.Goals as goal

pub loop-i-init : goal.loop-i-init
loop-i-init c =
    let end = c.args.end in
    let places : 1024 - end + 0 ≡ 1024 - end = omega arith in
    record {
      number = ap (λ t. number c.args.octets.now + c.args.limb * 256 ^ t) places;
      bound = omega arith;
      zeros = λ k h. c.requires.zeros k (omega arith);
    }

pub loop-i-preserved : goal.loop-i-preserved
loop-i-preserved c =
    let l = c.loop-i in
    let i = l.i in
    let end = c.args.end in
    let place = end - 1 - i in
    let j = 1024 - end + i in
    let all : length l.octets ≡ 1024 = search rules in
    let low = bit_and l.rest 255 in
    let low-is : low ≡ l.rest % 256 = and_mask l.rest 8 in
    let written : number (set l.octets place low) ≡ number l.octets + low * 256 ^ j =
    number_onto-set 0 l.octets place j low (omega arith) (l.invariant.zeros place (omega arith)) in
    let next : 1024 - end + (i + 1) ≡ suc j = omega arith in
    let wider : 256 ^ (1024 - end + (i + 1)) ≡ 256 ^ j * 256 = ap (λ t. 256 ^ t) next ∙ pow-suc 256 j in
    let higher : 256 ^ (i + 1) ≡ 256 ^ i * 256 = ap (λ t. 256 ^ t) (add-one i) ∙ pow-suc 256 i in
    let down : l.rest / 256 * 256 * 256 ^ i ≤ l.rest * 256 ^ i = mul-le-mul_right (256 ^ i) (omega arith) in
    record {
      number = omega (arith, written, put_turn (number l.octets) l.rest (256 ^ j), l.invariant.number, ap (λ t. t * 256 ^ j) low-is, ap (λ t. l.rest / 256 * t) wider);
      bound = omega (arith, down, l.invariant.bound, ap (λ t. l.rest / 256 * t) higher);
      zeros = λ k h. get_or-set_other l.octets place k low 0 (λ e. omega arith) ∙ l.invariant.zeros k (omega arith);
    }

pub returns : goal.returns
returns c =
    let l = c.loop-i in
    let end = c.args.end in
    let done : l.i ≡ 8 = omega arith in
    let small : l.rest * 256 ^ 8 ≤ c.args.limb = rw done at l.invariant.bound in
    let none : l.rest ≡ 0 = omega arith in
    record {
      number = omega (arith, l.invariant.number, ap (λ t. t * 256 ^ (1024 - end + l.i)) none);
      zeros = λ k h. l.invariant.zeros k (omega arith);
    }
