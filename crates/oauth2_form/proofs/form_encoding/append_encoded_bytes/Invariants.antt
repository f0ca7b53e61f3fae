use Rattle.std.proofs.Common.{◌≡◌, ◌++◌, ◌+◌, ◌≤◌, length}
use Rattle.std.specs.Prelude.{vec_len, vec_capacity}
use Rattle.form_urlencoded.specs.Form.{byte_serialize, IsPrefix}
use Rattle.oauth2_form.proofs.form_encoding.append_encoded_bytes.Given as goal

abbrev pub invariant-loop-byte : goal.invariant-loop-byte
invariant-loop-byte l = (l.out.items ++ byte_serialize l.rest ≡ l.fn.out.items ++ byte_serialize l.fn.bytes) × IsPrefix l.fn.out.items l.out.items × (vec_len l.out + length l.rest ≤ vec_capacity l.out)

abbrev pub decreases-loop-byte : goal.decreases-loop-byte
decreases-loop-byte l = length l.rest
