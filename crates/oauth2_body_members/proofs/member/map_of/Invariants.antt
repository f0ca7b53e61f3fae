use Rattle.std.proofs.Common.{◌≡◌, map}
use Rattle.std.specs.Vec.Iter.{into_iter_items}
use Rattle.serde_json.specs.View.{members_view}
use Rattle.oauth2_body_members.specs.Object.{put_each, entry_of, list_members}
use Rattle.oauth2_body_members.proofs.member.map_of.Given as goal

abbrev pub invariant-loop-member : goal.invariant-loop-member
invariant-loop-member l =
    (goal.iterator-loop-member).can_next l.member-iterator
    × (goal.iterator-loop-member).is_finite l.member-iterator
    × (put_each (map entry_of (into_iter_items l.member-iterator)) (members_view l.map.entries) ≡ list_members (into_iter_items l.initial.member-iterator))
