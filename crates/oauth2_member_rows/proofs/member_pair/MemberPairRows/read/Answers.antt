use Rattle.std.proofs.Common.{[], ◌∷◌, ◌∙◌}
use Rattle.oauth2_body_members.specs.Object.{object_members}
use Rattle.oauth2_member_rows.proofs.Names.{left_agrees}
use Rattle.oauth2_member_rows.proofs.member_pair.MemberPairRows.read.Goals as goal

pub returns-clause-read : goal.returns-clause-read
returns-clause-read g c =
    let m = c.args.self.now in
    let apart = left_agrees (m.0.now ∷ []) (m.1.now ∷ []) (object_members c.args.object.now) c.requires in
    let other = (rw c.take-found.ensures.rest at c.take-found_other.ensures.found) ∙ apart.0 in
    rw (c.take-found.ensures.found, other) at c.read.ensures
