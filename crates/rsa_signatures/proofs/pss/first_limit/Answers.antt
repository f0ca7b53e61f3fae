use Rattle.std.proofs.Common.{◌-◌, arith}
use Rattle.std.proofs.lemmas.Nat.{one_shl}
use Rattle.rsa_signatures.proofs.pss.first_limit.Goals as goal

pub returns : goal.returns
returns c = one_shl (8 - c.args.unused) 16 (omega arith)
