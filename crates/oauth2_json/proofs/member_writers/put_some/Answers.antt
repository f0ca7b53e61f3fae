use Rattle.std.proofs.lemmas.Result.{on_ok_weaker}
use Rattle.serde_json.specs.View.{view, members_view}
use Rattle.oauth2_json.proofs.Order.{put-order}
use Rattle.oauth2_json.proofs.member_writers.put_some.Goals as goal

pub returns-in-Some-clause-ordered : goal.returns-in-Some-clause-ordered
returns-in-Some-clause-ordered c =
    on_ok_weaker c.put.result
    (λ e h. rw e (put-order c.args.name.now (view c.in-Some.value) (members_view c.args.members.now.entries) h))
    c.put.ensures.ok
