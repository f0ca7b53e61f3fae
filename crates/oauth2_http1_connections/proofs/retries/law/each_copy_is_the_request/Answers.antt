use Rattle.oauth2_http1_connections.proofs.retries.LawLemmas.{copy_is_the_request}
use Rattle.oauth2_http1_connections.proofs.retries.law.each_copy_is_the_request.Goals as goal

pub returns : goal.returns
returns c = copy_is_the_request
