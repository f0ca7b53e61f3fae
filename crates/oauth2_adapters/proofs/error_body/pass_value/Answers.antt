use Rattle.oauth2_adapters.proofs.ErrorTurns.{text_stands, other_stands}
use Rattle.oauth2_adapters.proofs.error_body.pass_value.Goals as goal

pub returns-then-eq-4 : goal.returns-then-eq-4
returns-then-eq-4 c =
    text_stands c.args.name.now (cc) (cc) (cc) c.args.reader.now c.pass_text.new.reader (cc) c.pass_text.result c.pass_text.ensures.found c.pass_text.ensures.rest

pub returns-in-Ok : goal.returns-in-Ok
returns-in-Ok c =
    other_stands c.args.name.now (cc) (cc) (cc) c.args.reader.now c.skip_value.new.self (cc) c.in-Ok.ensures.value c.in-Ok.ensures.shorter
