use Rattle.std.proofs.Common.{◌≡◌, drop}
use Rattle.oauth2_redirect.specs.Query.{is_visible}
use Rattle.oauth2_redirect.proofs.comparing.is_visible.Given as goal

abbrev pub invariant-loop-byte : goal.invariant-loop-byte
invariant-loop-byte l = is_visible l.text ≡ is_visible (drop l.byte-index l.text)
