use Rattle.std.proofs.Common.{◌≡◌, length, ap, sym, refl, ◌∙◌, rules}
use Rattle.percent_encoding.specs.Percent.{percent_encode_byte}
use Rattle.oauth2_form.proofs.FormEncodingLemmas.{serialize_byte-escape}
use Rattle.oauth2_form.proofs.form_encoding.byte_len.Goals as goal

pub returns-then-single_byte-eq0 : goal.returns-then-single_byte-eq0
unfolding percent_encode_byte
returns-then-single_byte-eq0 c =
    let three : 3 ≡ length (percent_encode_byte c.args.byte) = refl in
    three ∙ ap length (sym (serialize_byte-escape c.args.byte c.single_byte.result c.single_byte.ensures (search rules)))
