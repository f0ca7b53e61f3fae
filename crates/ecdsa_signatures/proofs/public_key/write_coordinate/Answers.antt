use Rattle.std.proofs.Common.{◌≡◌, ◌++◌, true, refl, subst, rules}
use Rattle.std.specs.Fmt.{HasWrittenStyled, formatter_spec, spec_alternate, styled_decimal}
use Rattle.std.specs.Int.{bytes_high_first}
use Rattle.modular_arithmetic.specs.DebugText.{octets_text}
use Rattle.modular_arithmetic.specs.Octets.{AreOctets, number}
use Rattle.modular_arithmetic.proofs.DebugTexts.{then_numbers}
use Rattle.modular_arithmetic.proofs.OctetNumbers.{octets_are}
use Rattle.ecdsa_signatures.specs.Curve.{coordinate_size}
use Rattle.ecdsa_signatures.proofs.KeyTexts.{some_octets}
use Rattle.ecdsa_signatures.proofs.public_key.write_coordinate.Goals as goal

pub write_octets-requires : goal.write_octets-requires
write_octets-requires g c = some_octets c.args.curve c.args.octets.now c.requires

pub returns : goal.returns
returns g c =
    let took = g.W.Write.write_str_gives in
    let f = c.args.f.now in
    let lines = spec_alternate (formatter_spec f) in
    let numeral = styled_decimal (formatter_spec f) in
    let label = c.args.label.now in
    let xs = c.args.octets.now in
    let octets : AreOctets xs = λ i. search rules in
    let same : xs ≡ bytes_high_first (coordinate_size c.args.curve) (number xs) = octets_are xs (coordinate_size c.args.curve) (number xs) octets c.requires refl in
    λ flush ok.
    let one = c.in_ok-write_str.ensures.styled flush (refl {a = true}) in
    subst (λ t. HasWrittenStyled took f (label ++ octets_text lines numeral t) c.write_octets.new.f) same
    (then_numbers took f c.write_str.new.self c.write_octets.new.f label one (λ b n. octets_text b n xs) (c.write_octets.ensures one.flush ok))
