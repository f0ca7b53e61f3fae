use Rattle.std.proofs.Common.{◌≡◌, ℕ, ◌+◌, List, [], ◌++◌, drop, get_or, true, refl, sym, ap, subst, ◌∙◌}
use Rattle.std.specs.Fmt.{HasWrittenStyled, formatter_spec, spec_alternate, styled_decimal}
use Rattle.std.proofs.Output.{has_written_styled_nil}
use Rattle.modular_arithmetic.specs.DebugText.{numbers_text, bracket, separator, closing}
use Rattle.modular_arithmetic.proofs.DebugTexts.{HasLeft, next_number, no_number_left}
use Rattle.modular_arithmetic.proofs.debug_text.write_octets.Goals as goal

pub loop-octet-init : goal.loop-octet-init
loop-octet-init g c =
    let took = g.W.Write.write_str_gives in
    let f = c.args.f.now in
    let numeral = styled_decimal (formatter_spec f) in
    let between = separator (spec_alternate (formatter_spec f)) in (
      c.choose-before.utf8,
      λ flush. record {
        part = [];
        wrote = has_written_styled_nil took f flush;
        whole = ap (λ t. numbers_text numeral t between c.args.octets.now) (c.choose-before.ensures ∙ ap bracket c.alternate-in_lines.ensures.value);
      },
    )

pub loop-octet-preserved : goal.loop-octet-preserved
loop-octet-preserved g c =
    let took = g.W.Write.write_str_gives in
    let f = c.args.f.now in
    let xs = c.args.octets.now in
    let i = c.loop-octet.octet-index in
    let numeral = styled_decimal (formatter_spec f) in
    let in_lines = spec_alternate (formatter_spec f) in
    let between = separator in_lines in
    let text = numbers_text numeral (bracket in_lines) between xs in
    let is : between ≡ c.choose-before-in-loop-octet.result.now = ap separator (sym c.alternate-in_lines.ensures.value) ∙ sym c.choose-before-in-loop-octet.ensures in (
      c.choose-before-in-loop-octet.utf8,
      λ flush.
          let left = c.loop-octet.invariant.1 flush in
          let one = c.in_ok-write_str.ensures.styled left.wrote.flush (refl {a = true}) in
          let two = c.in_ok-fmt.ensures.styled one.flush (refl {a = true}) in
          let same : formatter_spec c.write_str.new.self ≡ formatter_spec f = one.spec ∙ left.wrote.spec in
          let number = subst (λ s. HasWrittenStyled took c.write_str.new.self (styled_decimal s (get_or xs i 0)) c.fmt.new.f) same two in
          subst (λ (t : List ℕ). HasLeft took f text numeral t between (drop (i + 1) xs) c.fmt.new.f) is
          (next_number took f text numeral c.loop-octet.before.now between xs i c.loop-octet.f left c.write_str.new.self c.fmt.new.f c.loop-octet-test.true one number),
    )

pub returns : goal.returns
returns g c =
    let took = g.W.Write.write_str_gives in
    let f = c.args.f.now in
    let xs = c.args.octets.now in
    let numeral = styled_decimal (formatter_spec f) in
    let in_lines = spec_alternate (formatter_spec f) in
    let between = separator in_lines in
    let text = numbers_text numeral (bracket in_lines) between xs in
    let is : c.choose.result.now ≡ closing in_lines = c.choose.ensures ∙ ap closing c.alternate-in_lines.ensures.value in
    λ flush ok.
    let left = c.loop-octet.invariant.1 flush in
    subst (λ (t : List ℕ). HasWrittenStyled took f (text ++ t) c.write_str-2.new.self) is
    (no_number_left took f text numeral c.loop-octet.before.now between xs c.loop-octet.octet-index c.loop-octet.f left c.choose.result.now c.write_str-2.new.self
    c.loop-octet-test.false (c.write_str-2.ensures.styled left.wrote.flush ok))
