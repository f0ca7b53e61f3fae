use Rattle.std.proofs.Common.{◌≡◌, ℕ, List, ◌++◌, true, refl, ap, ◌∙◌}
use Rattle.std.specs.Fmt.{HasWrittenStyled, formatter_spec, spec_alternate, styled_decimal}
use Rattle.std.proofs.Output.{has_written_styled_of_eq}
use Rattle.modular_arithmetic.specs.Octets.{number}
use Rattle.modular_arithmetic.proofs.DebugTexts.{then_text, then_numbers, displays_decimals}
use Rattle.ecdsa_signatures.specs.KeyText.{key_text, curve_text, x_label, y_label, closing, coordinate_text}
use Rattle.ecdsa_signatures.proofs.public_key.EcdsaPublicKeyDebug.fmt.Goals as goal

pub returns-clause-styled : goal.returns-clause-styled
returns-clause-styled g c =
    let took = g.W.Write.write_str_gives in
    let f = c.args.f.now in
    let key = c.args.self.now in
    let lines = spec_alternate (formatter_spec f) in
    let numeral = styled_decimal (formatter_spec f) in
    let curve = c.curve-curve.result in
    let coordinate : ℕ → List ℕ = coordinate_text lines numeral curve in
    let is : c.alternate-lines.result ≡ lines = c.alternate-lines.ensures.value in
    let x-label-is : c.choose.result.now ≡ x_label lines = c.choose.ensures ∙ ap x_label is in
    let y-label-is : c.choose-2.result.now ≡ y_label lines = c.choose-2.ensures ∙ ap y_label is in
    let closing-is : c.choose-3.result.now ≡ closing lines = c.choose-3.ensures ∙ ap closing is in
    let to-curve = curve_text lines curve in
    let to-x = to-curve ++ (c.choose.result.now ++ coordinate (number c.x.result.now)) in
    let to-y = to-x ++ (c.choose-2.result.now ++ coordinate (number c.y.result.now)) in
    λ flush ok.
    let one : HasWrittenStyled took f to-curve c.write_curve.new.f = c.in_ok-write_curve.ensures flush (refl {a = true}) in
    let two : HasWrittenStyled took f to-x c.write_coordinate.new.f =
    then_numbers took f c.write_curve.new.f c.write_coordinate.new.f to-curve one (λ b n. c.choose.result.now ++ coordinate_text b n curve (number c.x.result.now))
    (c.in_ok-write_coordinate.ensures one.flush (refl {a = true})) in
    let three : HasWrittenStyled took f to-y c.write_coordinate-2.new.f =
    then_numbers took f c.write_coordinate.new.f c.write_coordinate-2.new.f to-x two (λ b n. c.choose-2.result.now ++ coordinate_text b n curve (number c.y.result.now))
    (c.in_ok-write_coordinate-2.ensures two.flush (refl {a = true})) in
    let all : HasWrittenStyled took f (to-y ++ closing lines) c.write_str.new.self =
    then_text took f c.write_coordinate-2.new.f c.write_str.new.self to-y three c.choose-3.result.now (closing lines) closing-is (c.write_str.ensures.styled three.flush ok) in
    has_written_styled_of_eq took f (to-y ++ closing lines) (key_text lines numeral key) c.write_str.new.self
    (λ j.
    curve_text lines (c.curve-curve.ensures j) ++ (x-label-is j ++ coordinate_text lines numeral (c.curve-curve.ensures j) (c.x.ensures.number j))
    ++ (y-label-is j ++ coordinate_text lines numeral (c.curve-curve.ensures j) (c.y.ensures.number j)) ++ closing lines) all

pub returns-clause-writes : goal.returns-clause-writes
returns-clause-writes g c =
    displays_decimals g.W.Write.write_str_gives c.args.f.now c.write_str.new.self c.write_str.result (λ in_lines numeral. key_text in_lines numeral c.args.self.now)
    (returns-clause-styled g c)
