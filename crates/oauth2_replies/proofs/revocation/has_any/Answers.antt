use Rattle.std.proofs.Common.{◌≡◌, List, [], ◌∷◌, length, Bool, true, false, not, IsTrue, ◌↔◌, refl, arith}
use Rattle.serde_json.specs.View.{members_view}
use Rattle.serde_json.proofs.Views.{Entry}
use Rattle.oauth2_replies.specs.Revocable.{has_any}
use Rattle.oauth2_replies.proofs.revocation.has_any.Goals as goal

counted : (es : List Entry) (b : Bool) → IsTrue b ↔ (length es ≡ 0) → not b ≡ has_any (members_view es)
counted [] true h = refl
counted [] false h = cc (h.1 refl)
counted (e ∷ es) true h = let none : length (e ∷ es) ≡ 0 = h.0 refl in absurd (omega arith)
counted (e ∷ es) false h = refl

pub returns : goal.returns
returns c = counted c.args.members.now.entries c.is_empty.result c.is_empty.ensures
