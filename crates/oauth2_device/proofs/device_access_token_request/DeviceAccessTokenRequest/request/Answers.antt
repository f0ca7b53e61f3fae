use Rattle.std.proofs.Common.{◌≡◌, sym, ◌∙◌}
use Rattle.oauth2_device.proofs.JoinedFacts.{each_led}
use Rattle.oauth2_device.proofs.device_access_token_request.DeviceAccessTokenRequest.request.Goals as goal

pub returns : goal.returns
returns g c =
    let h = c.poll_with-result.ensures.poll in
    let ready = c.poll_with-result.ensures.ready in
    let k = each_led _ _ _ _ h.0 _ h.1 in
    let client_back : c.http_client-1.given.0 ≡ c.poll_with-result.new.world.client.now = c.http_client-1.given.1 (sym k.same_client) ∙ c.take_back.ensures in
    let sleep_back : c.sleep_fn-1.given.0 ≡ c.poll_with-result.new.world.sleep.now = c.sleep_fn-1.given.1 (sym k.same_sleep) ∙ c.take_back-2.ensures in
    record {
      poll = (
        h.0,
        (c.poll_with-result.new.world.clock, rw (← c.replace_clock-request.ensures.before) k.clock),
        rw client_back k.client,
        rw sleep_back k.sleep,
        rw (← c.replace_clock-request.ensures.request) h.2,
      );
      client = rw client_back ready.1;
      sleep = rw sleep_back ready.2;
    }
