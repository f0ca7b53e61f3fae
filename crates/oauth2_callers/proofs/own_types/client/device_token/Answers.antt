use Rattle.oauth2_callers.proofs.EqualRequests.{PollsForToken-equal}
use Rattle.oauth2_callers.proofs.own_types.client.device_token.Goals as goal

pub returns-clause-poll : goal.returns-clause-poll
returns-clause-poll g c =
    let started = c.exchange_device_access_token in
    let polled = c.poll_with.ensures.poll in
    (started.result.request.token_url, started.ensures.url, polled.0, polled.1, PollsForToken-equal started.result.request _ 10 polled.0 c.poll_with.result started.ensures.new polled.2)
