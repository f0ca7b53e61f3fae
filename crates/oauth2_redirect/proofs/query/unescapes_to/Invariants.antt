use Rattle.std.proofs.Common.{◌≡◌, bytes_eq}
use Rattle.percent_encoding.specs.Percent.{percent_decode}
use Rattle.percent_encoding.specs.Iter.{decoded_bytes}
use Rattle.oauth2_redirect.proofs.query.unescapes_to.Given as goal

abbrev pub invariant-loop-byte : goal.invariant-loop-byte
invariant-loop-byte l =
    bytes_eq (percent_decode l.fn.encoded) l.fn.bytes ≡ bytes_eq (decoded_bytes l.byte-iterator) l.left
