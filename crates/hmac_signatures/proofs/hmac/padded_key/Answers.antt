use Rattle.std.proofs.Common.{◌≡◌, ◌<◌, length, ◌∙◌, arith, inl, inr, get_or-set_same, get_or-set_other, length-set}
use Rattle.std.proofs.lemmas.List.{get_or-replicate, length-replicate}
use Rattle.std.proofs.lemmas.Bool.{cases_lt}
use Rattle.hmac_signatures.proofs.Keys.{pad_is}
use Rattle.hmac_signatures.proofs.hmac.padded_key.Goals as goal

pub loop-i-init : goal.loop-i-init
loop-i-init c = record {
  long = length-replicate 128 c.args.with;
  done = λ k h. absurd (omega arith);
  left = λ k low high. get_or-replicate 128 k c.args.with 0 high;
}

pub loop-i-preserved : goal.loop-i-preserved
loop-i-preserved c =
    let l = c.loop-i in
    let within : l.i < length l.block = omega arith in
    record {
      long = length-set l.block l.i _ ∙ l.invariant.long;
      done = λ k h.
          elim (cases_lt k l.i) [
            | inl lt ↦ get_or-set_other l.block l.i k _ 0 (λ e. omega arith) ∙ l.invariant.done k lt
            | inr ge ↦ let e : l.i ≡ k = omega arith in rw (← e) (get_or-set_same l.block l.i _ 0 within)
          ];
      left = λ k low high. get_or-set_other l.block l.i k _ 0 (λ e. omega arith) ∙ l.invariant.left k (omega arith) high;
    }

pub returns : goal.returns
returns c =
    let l = c.loop-i in
    let end : l.i ≡ length c.args.key.now = omega arith in
    pad_is c.args.key.now c.args.with 128 l.block c.requires l.invariant.long (λ i h. l.invariant.done i (omega arith)) (λ i low high. l.invariant.left i (omega arith) high)
