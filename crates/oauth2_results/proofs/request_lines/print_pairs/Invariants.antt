use Rattle.std.proofs.Common.{◌≡◌, ◌++◌, string_bytes, map, take}
use Rattle.oauth2_wire.specs.ServerView.{pair_texts}
use Rattle.oauth2_results.specs.RequestLines as spec
use Rattle.oauth2_results.proofs.request_lines.print_pairs.Given as goal

abbrev pub invariant-loop-name : goal.invariant-loop-name
invariant-loop-name l = string_bytes l.lines ≡ string_bytes l.initial.lines ++ spec.pair_lines (map pair_texts (take l.name-index l.pairs))
