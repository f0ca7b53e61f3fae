use Rattle.std.proofs.Common.{true, refl, ap, ◌∙◌}
use Rattle.std.specs.Fmt.{HasWrittenStyled, formatter_spec, spec_alternate}
use Rattle.std.proofs.Output.{has_written_styled_of_eq}
use Rattle.modular_arithmetic.proofs.DebugTexts.{then_text}
use Rattle.ecdsa_signatures.specs.KeyText.{curve_name, opening}
use Rattle.ecdsa_signatures.proofs.public_key.write_curve.Goals as goal

pub returns : goal.returns
returns g c =
    let took = g.W.Write.write_str_gives in
    let f = c.args.f.now in
    let lines = spec_alternate (formatter_spec f) in
    λ flush ok.
    let one : HasWrittenStyled took f (opening lines) c.write_str.new.self =
    has_written_styled_of_eq took f c.choose.result.now (opening lines) c.write_str.new.self (c.choose.ensures ∙ ap opening c.alternate.ensures.value)
    (c.in_ok-write_str.ensures.styled flush (refl {a = true})) in
    then_text took f c.write_str.new.self c.write_str-2.new.self (opening lines) one c.name.result.now (curve_name c.args.curve) c.name.ensures
    (c.write_str-2.ensures.styled one.flush ok)
