use Rattle.oauth2_adapters.proofs.Names.{name_added}
use Rattle.oauth2_adapters.proofs.form_bodies.add_name.Goals as goal

pub returns-clause-names : goal.returns-clause-names
returns-clause-names c = name_added c.args.names.now c.insert.new.self c.args.name c.in_ok-insert.ensures.updates
