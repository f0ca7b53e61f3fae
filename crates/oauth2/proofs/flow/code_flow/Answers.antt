use Rattle.oauth2.proofs.CodeFlowLaws.{PassesCheck-of_flow}
use Rattle.oauth2.proofs.flow.code_flow.Goals as goal

pub returns-clause-check : goal.returns-clause-check
returns-clause-check g c =
    let url = c.in_ok-url.ensures.url in
    let request = c.in_ok-request.ensures.request in
    (url.0, url.1, PassesCheck-of_flow c.args.client.now url.0 request.0 _ _ _ _ _ url.2 request.2)
