use Rattle.std.proofs.Common.{◌∙◌, arith}
use Rattle.rsa_signatures.proofs.Keys.{number-drop}
use Rattle.rsa_signatures.proofs.public_key.significant.Goals as goal

pub loop-start-preserved : goal.loop-start-preserved
loop-start-preserved c = record {
  within = omega arith;
  number_is = number-drop c.args.bytes.now c.loop-start.start c.loop-start-test.true c.if-bytes-start-eq0.true ∙ c.loop-start.invariant.number_is;
}
