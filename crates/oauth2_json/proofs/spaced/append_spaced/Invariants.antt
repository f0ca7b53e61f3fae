use Rattle.std.proofs.Common.{◌≡◌, ◌++◌, map, take}
use Rattle.std.specs.Prelude.{string_bytes, codes}
use Rattle.std.specs.List.{flat_map}
use Rattle.oauth2_json.proofs.spaced.append_spaced.Given as goal

abbrev pub invariant-loop-item : goal.invariant-loop-item
invariant-loop-item g l =
    string_bytes l.text ≡ string_bytes l.initial.text ++ flat_map (λ word. codes " " ++ word) (map g.T.AsStr.text (take l.item-index l.items))
