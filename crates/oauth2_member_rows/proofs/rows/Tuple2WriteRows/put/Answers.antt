use Rattle.std.proofs.Common.{◌≡◌, IfOk, subst, sym, ap, ◌∙◌}
use Rattle.serde_json.specs.View.{members_view}
use Rattle.oauth2_json.specs.Puts.{put_all}
use Rattle.oauth2_member_rows.proofs.Names.{put_all-append}
use Rattle.oauth2_member_rows.proofs.rows.Tuple2WriteRows.put.Goals as goal

pub returns : goal.returns
returns g c =
    let first = g.A.WriteRows.written c.args.self.now.0 (g.A.WriteRows.values_of c.args.values.0) in
    let second = g.B.WriteRows.written c.args.self.now.1 (g.B.WriteRows.values_of c.args.values.1) in
    let both = ap (put_all first) c.in_ok-put.ensures ∙ sym (put_all-append first second (members_view c.args.members.now.entries)) in
    subst (λ ms. IfOk c.put-2.result (λ _. members_view c.put-2.new.members.entries ≡ ms)) both c.put-2.ensures
