use Rattle.oauth2_http1_connections.proofs.deadlines.LawLemmas.{ends_in_time}
use Rattle.oauth2_http1_connections.proofs.deadlines.law.each_call_ends_in_time.Goals as goal

pub returns : goal.returns
returns c = ends_in_time
