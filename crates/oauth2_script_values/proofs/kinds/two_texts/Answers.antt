use Rattle.oauth2_script_values.proofs.Parts.{pair_of-other}
use Rattle.oauth2_script_values.proofs.kinds.two_texts.Goals as goal

pub returns-then-values-ne2 : goal.returns-then-values-ne2
returns-then-values-ne2 c = rw c.bad.ensures (pair_of-other c.args.values.now c.if-values-ne2.true)
