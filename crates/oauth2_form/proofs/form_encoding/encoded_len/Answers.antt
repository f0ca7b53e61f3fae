use Rattle.std.proofs.Common.{◌≡◌, ◌<◌, ◌+◌, ◌-◌, ◌^◌, length, take, min, slice_index, ap, sym, ◌∙◌, rules}
use Rattle.form_urlencoded.specs.Form.{serialize_byte, byte_serialize}
use Rattle.form_urlencoded.proofs.FormLemmas.{byte_serialize-nil}
use Rattle.oauth2_form.specs.Length.{usize_len}
use Rattle.oauth2_form.proofs.LengthLaws.{usize_len-byte}
use Rattle.oauth2_form.proofs.form_encoding.encoded_len.Goals as goal

pub loop-byte-init : goal.loop-byte-init
loop-byte-init c = ap usize_len (sym byte_serialize-nil)

pub loop-byte-preserved : goal.loop-byte-preserved
loop-byte-preserved c =
    let inside : c.loop-byte.byte-index < length c.args.text.now = search rules in
    let one : c.byte_len.result ≡ length (serialize_byte (slice_index c.args.text.now c.loop-byte.byte-index)) = search rules in
    c.saturating_add-len.ensures ∙ ap (λ n. min (n + c.byte_len.result) (2 ^ 64 - 1)) c.loop-byte.invariant
    ∙ ap (λ n. min (usize_len (byte_serialize (take c.loop-byte.byte-index c.args.text.now)) + n) (2 ^ 64 - 1)) one ∙ usize_len-byte c.args.text.now c.loop-byte.byte-index inside
