use Rattle.std.proofs.Common.{rules}
use Rattle.json.specs.Print.{print_from}
use Rattle.oauth2_world.specs.Quotation.{quotation}
use Rattle.oauth2_world.proofs.texts.quoted.Goals as goal

pub returns : goal.returns
unfolding quotation print_from
returns c = search rules
