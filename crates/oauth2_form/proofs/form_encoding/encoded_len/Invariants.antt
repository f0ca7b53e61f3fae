use Rattle.std.proofs.Common.{◌≡◌, take}
use Rattle.form_urlencoded.specs.Form.{byte_serialize}
use Rattle.oauth2_form.specs.Length.{usize_len}
use Rattle.oauth2_form.proofs.form_encoding.encoded_len.Given as goal

abbrev pub invariant-loop-byte : goal.invariant-loop-byte
invariant-loop-byte l = l.len ≡ usize_len (byte_serialize (take l.byte-index l.text))
