use Rattle.std.proofs.Common.{◌^◌, ◌<◌, get_or, arith, rules}
use Rattle.std.proofs.lemmas.Nat.{leading_top}
use Rattle.rsa_signatures.proofs.OctetNumbers.{has_bits}
use Rattle.rsa_signatures.proofs.public_key.bits.Goals as goal

pub returns : goal.returns
returns c =
    let bs = c.args.bytes.now in
    let fits : get_or bs 0 0 < 2 ^ 8 = search rules in
    let top = leading_top 8 (get_or bs 0 0) c.requires.first fits in
    record {
      has_bits = has_bits bs top.0 _ (λ i. search rules) c.requires.some top.2 top.3 (omega (arith, top.1));
      least = omega (arith, top.1);
      most = omega (arith, top.1);
    }
