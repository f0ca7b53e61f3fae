use Rattle.std.proofs.Common.{◌≡◌, bytes_eq, length}
use Rattle.form_urlencoded.specs.Form.{decode}
use Rattle.oauth2_redirect.proofs.decoding.decode_alike.Given as goal

abbrev pub invariant-loop-byte : goal.invariant-loop-byte
invariant-loop-byte l =
    bytes_eq (decode l.fn.encoded) (decode l.fn.other) ≡ bytes_eq (decode l.left) (decode l.other_left)

abbrev pub decreases-loop-byte : goal.decreases-loop-byte
decreases-loop-byte l = length l.left
