use Rattle.std.proofs.Common.{◌≡◌, ◌-◌, length, get_or, IsTrue, arith, rules}
use Rattle.rsa_signatures.proofs.OctetNumbers.{padding_is, padding_at}
use Rattle.rsa_signatures.proofs.pss.is_padding.Goals as goal

pub returns-then-is_zero : goal.returns-then-is_zero
returns-then-is_zero c =
    let xs = c.args.octets.now in
    let n = length xs - 1 in
    let zeros = c.is_zero.ensures.0 (search rules) in (
      λ t. padding_is xs n (omega arith) zeros (let one : get_or xs n 0 ≡ 1 = grind arith in one),
      λ e. let one : get_or xs n 0 ≡ 1 = (padding_at xs n (omega arith) e).1 in grind arith,
    )

pub returns-else-is_zero : goal.returns-else-is_zero
returns-else-is_zero c =
    let xs = c.args.octets.now in
    let n = length xs - 1 in (
      λ t. absurd (let f : ⊥ = grind arith in f),
      λ e. let holds : IsTrue c.is_zero.result = c.is_zero.ensures.1 (padding_at xs n (omega arith) e).0 in absurd (let f : ⊥ = grind arith in f),
    )
