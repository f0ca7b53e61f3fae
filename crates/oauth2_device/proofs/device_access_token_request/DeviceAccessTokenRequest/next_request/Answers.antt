use Rattle.url.specs.Parts.{serialize}
use Rattle.oauth2_device.specs.DeviceToken.{device_token_configuration}
use Rattle.oauth2_device.proofs.device_access_token_request.DeviceAccessTokenRequest.next_request.Goals as goal

pub returns-in-Some-clause-ok : goal.returns-in-Some-clause-ok
returns-in-Some-clause-ok g c =
    let r = c.args.self.now.request in
    c.in_ok-copy_request.ensures.request (device_token_configuration r) (serialize r.token_url.url) (rw c.in-Some.is at c.requires)
