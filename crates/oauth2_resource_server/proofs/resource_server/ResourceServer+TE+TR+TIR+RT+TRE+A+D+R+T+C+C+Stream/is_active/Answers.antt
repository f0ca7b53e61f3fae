use Rattle.std.proofs.Common.{inr, sym, ◌∙◌}
use Rattle.oauth2_resource_server.proofs.resource_server.ResourceServer+TE+TR+TIR+RT+TRE+A+D+R+T+C+C+Stream.is_active.Goals as goal

pub returns-then-is_unanswered-clause-asks : goal.returns-then-is_unanswered-clause-asks
returns-then-is_unanswered-clause-asks g c =
    inr (
      c.is_active-first.result,
      c.is_active-first.new.http_client,
      c.is_active-first.new.self,
      sym c.is_unanswered.ensures ∙ c.if-is_unanswered.true,
      c.is_active-first.ensures.call,
      c.is_active.ensures.call,
    )
