use Rattle.std.proofs.Common.{◌≡◌, ◌++◌, true}
use Rattle.sha2.specs.Hashers.{Holds256}
use Rattle.percent_encoding.specs.Percent.{percent_decode}
use Rattle.percent_encoding.specs.Iter.{decoded_bytes}
use Rattle.oauth2_redirect.specs.Query.{is_visible}
use Rattle.oauth2_redirect.proofs.comparing.unescaped_digest.Given as goal

abbrev pub invariant-loop-byte : goal.invariant-loop-byte
invariant-loop-byte l =
    Holds256 l.hasher l.yielded × (is_visible l.yielded ≡ true)
    × (percent_decode l.fn.encoded ≡ l.yielded ++ decoded_bytes l.byte-iterator)
