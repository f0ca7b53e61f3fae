use Rattle.std.proofs.Common.{◌≡◌, ◌++◌, codes, map, take, string_bytes}
use Rattle.std.specs.List.{flat_map}
use Rattle.oauth2_results.proofs.json_text.push_items.Given as goal

abbrev pub invariant-loop-item : goal.invariant-loop-item
invariant-loop-item l =
    string_bytes l.text ≡ string_bytes l.fn.text ++ flat_map (λ item. codes "," ++ item) (map string_bytes (take l.item-index l.items))
