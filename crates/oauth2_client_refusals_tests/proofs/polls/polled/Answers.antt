use Rattle.oauth2_client_refusals_tests.proofs.Recorded.{recorded, Polls-equal}
use Rattle.oauth2_client_refusals_tests.proofs.polls.polled.Goals as goal

pub returns : goal.returns
returns c =
    let started = c.exchange_device_access_token in
    let did = c.poll_with.ensures.poll in (
      started.result.request.token_url,
      started.ensures.url,
      did.0,
      recorded _ _ _ did.1,
      Polls-equal _ _ c.args.timeout c.args.max_polls did.0 c.poll_with.result _ _ started.ensures.new did.2,
    )
