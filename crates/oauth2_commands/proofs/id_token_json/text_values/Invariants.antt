use Rattle.std.proofs.Common.{◌≡◌, ◌++◌, drop, map, string_bytes}
use Rattle.serde_json.specs.Data.{string}
use Rattle.serde_json.specs.View.{view}
use Rattle.oauth2_commands.proofs.id_token_json.text_values.Given as goal

abbrev pub invariant-loop-text : goal.invariant-loop-text
invariant-loop-text l = map view l.values.items ++ map (λ t. string (string_bytes t)) (drop l.text-index l.texts) ≡ map (λ t. string (string_bytes t)) l.texts
