use Rattle.oauth2_http1_connections.proofs.retries.LawLemmas.{other_is_sent_once}
use Rattle.oauth2_http1_connections.proofs.retries.law.each_other_request_is_sent_once.Goals as goal

pub returns : goal.returns
returns g c = other_is_sent_once g.C.SyncHttpClient.step g.C.SleepingClient.sleeps g.C.Error.TellsUnsent.unsent
