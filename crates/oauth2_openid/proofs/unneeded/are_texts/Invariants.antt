use Rattle.std.proofs.Common.{◌≡◌, drop}
use Rattle.serde_json.specs.View.{items_view}
use Rattle.oauth2_openid.specs.private.Left.{are_texts}
use Rattle.oauth2_openid.proofs.unneeded.are_texts.Given as goal

abbrev pub invariant-loop-item : goal.invariant-loop-item
invariant-loop-item l = are_texts (items_view l.items) ≡ are_texts (items_view (drop l.item-index l.items))
