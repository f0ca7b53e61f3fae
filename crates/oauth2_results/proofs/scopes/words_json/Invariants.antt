use Rattle.std.proofs.Common.{◌≡◌, map, take, string_bytes}
use Rattle.oauth2_world.specs.Quotation.{quotation}
use Rattle.oauth2_results.proofs.scopes.words_json.Given as goal

abbrev pub invariant-loop-word : goal.invariant-loop-word
invariant-loop-word l = map string_bytes l.items.items ≡ map quotation (map (λ w. w.now) (take l.word-index l.word-items))
