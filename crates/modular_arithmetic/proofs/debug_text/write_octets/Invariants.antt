use Rattle.std.proofs.Common.{drop}
use denote.Text.{Utf8}
use denote.Shadow.{shadow}
use Rattle.std.specs.Fmt.{IsFlush, formatter_spec, spec_alternate, styled_decimal}
use Rattle.modular_arithmetic.specs.DebugText.{numbers_text, bracket, separator}
use Rattle.modular_arithmetic.proofs.DebugTexts.{HasLeft}
use Rattle.modular_arithmetic.proofs.debug_text.write_octets.Given as goal

abbrev pub invariant-loop-octet : goal.invariant-loop-octet
invariant-loop-octet g l =
    let s = formatter_spec l.fn.f in
    let numeral = styled_decimal s in
    let between = separator (spec_alternate s) in
    shadow (Utf8 l.before)
    × (IsFlush l.fn.f → HasLeft g.W.Write.write_str_gives l.fn.f (numbers_text numeral (bracket (spec_alternate s)) between l.octets) numeral l.before between (drop l.octet-index l.octets) l.f)
