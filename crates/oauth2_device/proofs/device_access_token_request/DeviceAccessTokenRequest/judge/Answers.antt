use Rattle.oauth2_device.specs.Poll.{device_answer}
use Rattle.oauth2_device.proofs.Verdicts.{judged}
use Rattle.oauth2_device.proofs.device_access_token_request.DeviceAccessTokenRequest.judge.Goals as goal

pub returns-in-Ok : goal.returns-in-Ok
returns-in-Ok g c =
    let shown = rw c.reply_rule.ensures at c.endpoint_response_with.ensures in
    rw c.in-Ok.is (judged g.TR.FromJson.meaning (device_answer c.args.self.now.request.base.reply_rule g.TR.FromJson.reading) c.in-Ok.reply c.judge_answer.result (c.judge_answer.ensures _ shown))
