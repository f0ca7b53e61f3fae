use Rattle.std.proofs.Common.{ap}
use Rattle.oauth2_client_assertions.proofs.RequestLemmas.{with_both}
use Rattle.oauth2_client_assertions.proofs.request.with_assertion.Goals as goal

pub returns : goal.returns
returns c =
    let parts = c.into_parts-head in
    with_both c.args.request c.from_parts.result c.args.assertion_type c.args.assertion.now c.as_str.result.now parts.result.0 parts.result.1 c.append_pair.new.form c.append_pair-2.new.form
    (ap (λ p. p.0) parts.ensures) (ap (λ p. p.1) parts.ensures) c.as_str.ensures c.in_ok-append_pair.ensures.extends c.in_ok-append_pair-2.ensures.extends
    c.from_parts.ensures.head c.from_parts.ensures.body
