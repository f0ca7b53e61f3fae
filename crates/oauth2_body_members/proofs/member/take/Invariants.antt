use Rattle.std.proofs.Common.{◌≡◌, ◌++◌, length, take, drop, map, option_map}
use Rattle.serde_json.specs.View.{view}
use Rattle.oauth2_body_members.specs.Object.{entry_of}
use Rattle.oauth2_body_members.proofs.Taking.{blanked, last_value}
use Rattle.oauth2_body_members.proofs.member.take.Given as goal

abbrev pub invariant-loop-index : goal.invariant-loop-index
invariant-loop-index l =
    (length l.list.items ≡ length l.fn.list.items)
    × (l.list.items ≡ blanked l.name (take l.index l.fn.list.items) ++ drop l.index l.fn.list.items)
    × (option_map view l.found ≡ last_value l.name (map entry_of (take l.index l.fn.list.items)))
