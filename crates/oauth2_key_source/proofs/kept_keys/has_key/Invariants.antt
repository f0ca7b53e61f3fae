use Rattle.std.proofs.Common.{◌≡◌, drop}
use Rattle.oauth2_key_source.specs.Source.{has_key}
use Rattle.oauth2_key_source.proofs.kept_keys.has_key.Given as goal

abbrev pub invariant-loop-key : goal.invariant-loop-key
invariant-loop-key l = has_key l.key_id l.keys ≡ has_key l.key_id (drop l.key-index l.keys)
