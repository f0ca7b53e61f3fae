use Rattle.std.proofs.Common.{◌∙◌}
use Rattle.oauth2_clock_tests.proofs.callers.device_token.Goals as goal

pub request-requires-clause-clock : goal.request-requires-clause-clock
request-requires-clause-clock g c = rw c.set_time_fn.ensures.clock c.requires.clock

pub returns-clause-poll : goal.returns-clause-poll
returns-clause-poll g c =
    let started = c.exchange_device_access_token in
    let poll = c.request.ensures.poll in
    let polls = rw (c.set_time_fn.ensures.request ∙ started.ensures.new) at poll.4 in
    (started.result.request.token_url, started.ensures.url, poll.0, poll.2, poll.3, polls.requests, polls.paced)
