use Rattle.std.proofs.Common.{◌≡◌, map, take, string_bytes}
use Rattle.oauth2_wire.specs.ServerView.{pair_texts}
use Rattle.oauth2_results.specs.Json.{pair_json}
use Rattle.oauth2_results.proofs.request_json.pairs_json.Given as goal

abbrev pub invariant-loop-name : goal.invariant-loop-name
invariant-loop-name l = map string_bytes l.items.items ≡ map pair_json (map pair_texts (take l.name-index l.pairs))
