use Rattle.std.proofs.Common.{◌≡◌, ◌∷◌, map, drop, string_bytes}
use Rattle.oauth2_openid.specs.Checks.{are_among}
use Rattle.oauth2_openid.proofs.texts.are_known.Given as goal

abbrev pub invariant-loop-each : goal.invariant-loop-each
invariant-loop-each l = are_among (map string_bytes l.texts) (l.first ∷ map string_bytes l.others) ≡ are_among (map string_bytes (drop l.each-index l.texts)) (l.first ∷ map string_bytes l.others)
