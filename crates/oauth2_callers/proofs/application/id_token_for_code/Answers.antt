use Rattle.std.proofs.Common.{rules}
use Rattle.oauth2_callers.proofs.Accepted.{rule-started}
use Rattle.oauth2_callers.proofs.application.id_token_for_code.Goals as goal

pub returns-clause-id_token : goal.returns-clause-id_token
returns-clause-id_token g c =
    let read = c.in_ok-token.ensures.token in
    let started = c.in_ok-started in
    let rule = rule-started c.args.client.now _ c.args.client.now.token_url started.started started.ensures.there started.ensures.missing in
    (read.0, read.2, read.3, _, rw rule at read.4, search rules)
