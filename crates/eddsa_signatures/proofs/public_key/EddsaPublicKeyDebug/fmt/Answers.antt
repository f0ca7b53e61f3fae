use Rattle.std.proofs.Common.{◌≡◌, ◌++◌, true, refl, ap, subst, ◌∙◌}
use Rattle.std.specs.Fmt.{HasWrittenStyled, formatter_spec, spec_alternate, styled_decimal}
use Rattle.std.proofs.Output.{has_written_styled_of_eq}
use Rattle.modular_arithmetic.specs.DebugText.{octets_text}
use Rattle.modular_arithmetic.proofs.DebugTexts.{then_text, then_numbers, displays_decimals}
use Rattle.eddsa_signatures.specs.KeyText.{key_text, opening, closing}
use Rattle.eddsa_signatures.proofs.public_key.EddsaPublicKeyDebug.fmt.Goals as goal

pub returns-clause-styled : goal.returns-clause-styled
returns-clause-styled g c =
    let took = g.W.Write.write_str_gives in
    let f = c.args.f.now in
    let lines = spec_alternate (formatter_spec f) in
    let numeral = styled_decimal (formatter_spec f) in
    let octets = octets_text lines numeral c.octets.result.now in
    let is : c.alternate-lines.result ≡ lines = c.alternate-lines.ensures.value in
    λ flush ok.
    let one : HasWrittenStyled took f (opening lines) c.write_str.new.self =
    has_written_styled_of_eq took f c.choose.result.now (opening lines) c.write_str.new.self (c.choose.ensures ∙ ap opening is) (c.in_ok-write_str.ensures.styled flush (refl {a = true})) in
    let two : HasWrittenStyled took f (opening lines ++ octets) c.write_octets.new.f =
    then_numbers took f c.write_str.new.self c.write_octets.new.f (opening lines) one (λ b n. octets_text b n c.octets.result.now) (c.in_ok-write_octets.ensures one.flush (refl {a = true})) in
    let all : HasWrittenStyled took f (opening lines ++ octets ++ closing lines) c.write_str-2.new.self =
    then_text took f c.write_octets.new.f c.write_str-2.new.self (opening lines ++ octets) two c.choose-2.result.now (closing lines) (c.choose-2.ensures ∙ ap closing is) (c.write_str-2.ensures.styled two.flush ok) in
    subst (λ xs. HasWrittenStyled took f (opening lines ++ octets_text lines numeral xs ++ closing lines) c.write_str-2.new.self) c.octets.ensures.octets all

pub returns-clause-writes : goal.returns-clause-writes
returns-clause-writes g c =
    displays_decimals g.W.Write.write_str_gives c.args.f.now c.write_str-2.new.self c.write_str-2.result (λ in_lines numeral. key_text in_lines numeral c.args.self.now)
    (returns-clause-styled g c)
