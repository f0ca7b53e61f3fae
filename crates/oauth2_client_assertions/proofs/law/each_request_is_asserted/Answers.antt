use Rattle.oauth2_client_assertions.proofs.LawLemmas.{asserted}
use Rattle.oauth2_client_assertions.proofs.law.each_request_is_asserted.Goals as goal

pub returns : goal.returns
returns c = asserted
