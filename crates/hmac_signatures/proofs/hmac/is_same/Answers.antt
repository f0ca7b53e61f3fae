use Rattle.std.proofs.Common.{◌≡◌, length, get_or, ap, arith, below_more}
use Rattle.std.proofs.lemmas.List.{ext_get_or}
use Rattle.hmac_signatures.proofs.Keys.{or_zero, or_same}
use Rattle.hmac_signatures.proofs.hmac.is_same.Goals as goal

pub loop-i-preserved : goal.loop-i-preserved
loop-i-preserved c =
    let l = c.loop-i in
    let x = get_or c.args.a.now l.i 0 in
    let y = get_or c.args.b.now l.i 0 in
    record {
      same = λ h. let z = or_zero l.differences x y h in below_more _ _ (l.invariant.same z.0) z.1;
      zero = λ h. or_same l.differences x y (l.invariant.zero (λ k lt. h k (omega arith))) (h l.i (omega arith));
    }

pub returns : goal.returns
returns c =
    let l = c.loop-i in
    let end : l.i ≡ length c.args.a.now = omega arith in (
      λ t. ext_get_or 0 c.args.a.now c.args.b.now c.requires (λ k h. l.invariant.same (let z : l.differences ≡ 0 = grind arith in z) k (omega arith)),
      λ e. let z : l.differences ≡ 0 = l.invariant.zero (λ k h. ap (λ xs. get_or xs k 0) e) in grind arith,
    )
