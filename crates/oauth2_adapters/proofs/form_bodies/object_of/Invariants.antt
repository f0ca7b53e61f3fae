use Rattle.std.proofs.Common.{◌≡◌, ◌++◌, ◌∷◌, [], drop, map}
use Rattle.json.specs.Token.{Token}
use Rattle.json.specs.Tree.{members_tokens}
use Rattle.oauth2_wire.specs.ServerView.{pair_texts}
use Rattle.oauth2_adapters.specs.FormBodies.{form_members}
use Rattle.oauth2_adapters.proofs.form_bodies.object_of.Given as goal

abbrev pub invariant-loop-pair : goal.invariant-loop-pair
invariant-loop-pair l =
    (l.writer.before ≡ [])
    × (l.writer.tokens ++ members_tokens (form_members (map pair_texts (drop l.pair-index l.pairs))) ≡ Token.begin_object ∷ members_tokens (form_members (map pair_texts l.pairs)))
