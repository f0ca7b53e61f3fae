use Rattle.std.proofs.Common.{rules}
use Rattle.oauth2_requests.proofs.query_len.with_redirect.Goals as goal

pub returns-in-Some : goal.returns-in-Some
returns-in-Some c = λ query start. search (rules, c.with_pair.ensures query start)
