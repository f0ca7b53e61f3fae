use Rattle.std.proofs.Common.{rules}
use Rattle.oauth2_resource_server.proofs.resource_server.ResourceServer+TE+TR+TIR+RT+TRE+A+D+R+T+C+C+Stream.authorize.Goals as goal

pub returns-clause-decides : goal.returns-clause-decides
returns-clause-decides g c = (c.is_active-active.result, c.is_active-active.ensures.asks, search rules)
