use Rattle.std.proofs.Common.{◌≡◌, map, drop, string_bytes}
use Rattle.oauth2_introspection_cache.specs.Decision.{is_among}
use Rattle.oauth2_introspection_cache.proofs.accepted.is_among.Given as goal

abbrev pub invariant-loop-each : goal.invariant-loop-each
invariant-loop-each l = is_among l.text (map string_bytes l.texts) ≡ is_among l.text (map string_bytes (drop l.each-index l.texts))
