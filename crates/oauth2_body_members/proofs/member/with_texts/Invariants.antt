use Rattle.std.proofs.Common.{◌≡◌, length, take, drop, map}
use Rattle.oauth2_body_members.specs.Object.{entry_of}
use Rattle.oauth2_body_members.specs.private.Found.{found_entry}
use Rattle.oauth2_body_members.proofs.member.with_texts.Given as goal

abbrev pub invariant-loop-index : goal.invariant-loop-index
invariant-loop-index l = record {
  same_length : length l.list.items ≡ length l.fn.found.items;
  copied : map entry_of (take l.index l.list.items) ≡ map found_entry (take l.index l.fn.found.items);
  left : drop l.index l.list.items ≡ drop l.index l.fn.found.items;
}
