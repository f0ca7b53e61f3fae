use Rattle.std.proofs.Common.{◌≡◌, ◌++◌, codes, map, take, string_bytes}
use Rattle.std.specs.List.{flat_map}
use Rattle.oauth2_results.specs.Json as spec
use Rattle.oauth2_results.proofs.json_text.push_members.Given as goal

abbrev pub invariant-loop-name : goal.invariant-loop-name
invariant-loop-name l =
    string_bytes l.text ≡ string_bytes l.fn.text ++ flat_map (λ m. codes "," ++ spec.member_text m) (map spec.member_of (take l.name-index l.members))
