use Rattle.std.proofs.Common.{◌≡◌, bytes_eq, drop}
use Rattle.percent_encoding.specs.Iter.{decoded_bytes}
use Rattle.percent_encoding.specs.Percent.{percent_decode}
use Rattle.oauth2_client_assertions.proofs.form_names.is_percent_encoded.Given as goal

abbrev pub invariant-loop-byte : goal.invariant-loop-byte
invariant-loop-byte l = bytes_eq (decoded_bytes l.left) (drop l.byte-index l.name) ≡ bytes_eq (percent_decode l.encoded) l.name
