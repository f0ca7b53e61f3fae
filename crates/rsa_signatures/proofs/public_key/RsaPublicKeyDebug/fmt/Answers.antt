use Rattle.std.proofs.Common.{◌≡◌, ℕ, List, ◌++◌, true, refl, ap, ◌∙◌}
use Rattle.std.specs.Fmt.{HasWrittenStyled, formatter_spec, spec_alternate, styled_decimal}
use Rattle.std.proofs.Output.{has_written_styled_of_eq}
use Rattle.modular_arithmetic.specs.Octets.{number}
use Rattle.modular_arithmetic.proofs.DebugTexts.{then_text, then_numbers, displays_decimals}
use Rattle.rsa_signatures.specs.KeyText.{key_text, modulus_text, exponent_label, closing}
use Rattle.rsa_signatures.proofs.public_key.RsaPublicKeyDebug.fmt.Goals as goal

pub returns-clause-styled : goal.returns-clause-styled
returns-clause-styled g c =
    let took = g.W.Write.write_str_gives in
    let f = c.args.f.now in
    let key = c.args.self.now in
    let lines = spec_alternate (formatter_spec f) in
    let numeral = styled_decimal (formatter_spec f) in
    let is : c.alternate-lines.result ≡ lines = c.alternate-lines.ensures.value in
    let modulus : ℕ → List ℕ = modulus_text lines numeral in
    let n = number c.modulus.result.now in
    let e = c.exponent.result in
    let to-exponent = modulus n ++ exponent_label lines in
    λ flush ok.
    let one : HasWrittenStyled took f (modulus n) c.write_modulus.new.f = c.in_ok-write_modulus.ensures flush (refl {a = true}) in
    let two : HasWrittenStyled took f to-exponent c.write_str.new.self =
    then_text took f c.write_modulus.new.f c.write_str.new.self (modulus n) one c.choose.result.now (exponent_label lines) (c.choose.ensures ∙ ap exponent_label is)
    (c.in_ok-write_str.ensures.styled one.flush (refl {a = true})) in
    let three : HasWrittenStyled took f (to-exponent ++ numeral e) c.fmt.new.f =
    then_numbers took f c.write_str.new.self c.fmt.new.f to-exponent two (λ b t. t e) (c.in_ok-fmt.ensures.styled two.flush (refl {a = true})) in
    let all : HasWrittenStyled took f (to-exponent ++ numeral e ++ closing lines) c.write_str-2.new.self =
    then_text took f c.fmt.new.f c.write_str-2.new.self (to-exponent ++ numeral e) three c.choose-2.result.now (closing lines) (c.choose-2.ensures ∙ ap closing is)
    (c.write_str-2.ensures.styled three.flush ok) in
    has_written_styled_of_eq took f (to-exponent ++ numeral e ++ closing lines) (key_text lines numeral key) c.write_str-2.new.self
    (λ j. modulus (c.modulus.ensures.number j) ++ exponent_label lines ++ numeral (c.exponent.ensures j) ++ closing lines) all

pub returns-clause-writes : goal.returns-clause-writes
returns-clause-writes g c =
    displays_decimals g.W.Write.write_str_gives c.args.f.now c.write_str-2.new.self c.write_str-2.result (λ in_lines numeral. key_text in_lines numeral c.args.self.now)
    (returns-clause-styled g c)
