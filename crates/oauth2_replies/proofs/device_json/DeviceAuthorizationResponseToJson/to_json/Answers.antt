use Rattle.std.proofs.Common.{◌≡◌, Ok}
use Rattle.oauth2_json.proofs.Objects.{if_written}
use Rattle.oauth2_replies.specs.Kept.{AreFieldsKept}
use Rattle.oauth2_replies.specs.Device.{device_seen, device_writing, device_reading}
use Rattle.oauth2_replies.proofs.DeviceLaws.{device_back}
use Rattle.oauth2_replies.proofs.device_json.DeviceAuthorizationResponseToJson.to_json.Goals as goal

pub returns-clause-written : goal.returns-clause-written
returns-clause-written g c = rw (← c.uri_of.ensures.same, ← c.self.view_is) c.object_with.ensures

pub returns-clause-reads_back : goal.returns-clause-reads_back
returns-clause-reads_back g c =
    let r = c.args.self.now in
    let E = g.EF.FromJson in
    let ew = g.EF.ToJson.writing in
    if_written c.object_with.result (device_writing ew r) (λ d. AreFieldsKept E.reading E.meaning ew r.extra_fields → device_reading E.reading d ≡ Ok (device_seen E.meaning r))
    (returns-clause-written g c) (λ d h k. device_back E.reading E.meaning ew r c.uri_of.ensures.address d h k)
