use Rattle.std.proofs.Common.{◌≡◌, ◌++◌, true, refl, ap, subst, ◌∙◌, rules}
use Rattle.std.specs.Fmt.{HasWrittenStyled, formatter_spec, spec_alternate, styled_decimal}
use Rattle.std.specs.Int.Digits.{digits_of}
use Rattle.std.proofs.Output.{has_written_styled_of_eq}
use Rattle.modular_arithmetic.specs.DebugText.{octets_text}
use Rattle.modular_arithmetic.specs.Octets.{AreOctets, number}
use Rattle.modular_arithmetic.proofs.DebugTexts.{then_numbers}
use Rattle.rsa_signatures.specs.KeyText.{opening}
use Rattle.rsa_signatures.proofs.ModulusOctets.{some_from_first, modulus_octets_are}
use Rattle.rsa_signatures.proofs.public_key.write_modulus.Goals as goal

pub write_octets-requires : goal.write_octets-requires
write_octets-requires g c = some_from_first c.args.octets.now c.requires

pub returns : goal.returns
returns g c =
    let took = g.W.Write.write_str_gives in
    let f = c.args.f.now in
    let lines = spec_alternate (formatter_spec f) in
    let numeral = styled_decimal (formatter_spec f) in
    let xs = c.args.octets.now in
    let octets : AreOctets xs = λ i. search rules in
    let same : xs ≡ digits_of 256 (number xs) = modulus_octets_are xs (number xs) octets c.requires refl in
    λ flush ok.
    let one : HasWrittenStyled took f (opening lines) c.write_str.new.self =
    has_written_styled_of_eq took f c.choose.result.now (opening lines) c.write_str.new.self (c.choose.ensures ∙ ap opening c.alternate.ensures.value)
    (c.in_ok-write_str.ensures.styled flush (refl {a = true})) in
    subst (λ t. HasWrittenStyled took f (opening lines ++ octets_text lines numeral t) c.write_octets.new.f) same
    (then_numbers took f c.write_str.new.self c.write_octets.new.f (opening lines) one (λ b n. octets_text b n xs) (c.write_octets.ensures one.flush ok))
