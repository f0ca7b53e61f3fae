use Rattle.std.proofs.Common.{◌≡◌, drop, map, string_bytes}
use Rattle.serde_json.specs.View.{items_view}
use Rattle.oauth2_keys.specs.Members.{texts_in}
use Rattle.oauth2_keys.proofs.Lists.{in_front}
use Rattle.oauth2_keys.proofs.key_members.texts_in.Given as goal

abbrev pub invariant-loop-item : goal.invariant-loop-item
invariant-loop-item l = in_front (map string_bytes l.texts.items) (texts_in l.member (items_view (drop l.item-index l.items))) ≡ texts_in l.member (items_view l.items)
