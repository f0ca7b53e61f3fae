use Rattle.std.proofs.Common.{List, IfSome}
use Rattle.std.specs.Duration.{as_nanos}
use Rattle.oauth2_device.specs.Events.{PollCall, Leads}
use Rattle.oauth2_device.specs.Poll.{IsDeviceRequest, device_answer}
use Rattle.oauth2_device.proofs.Traces.{SoFar}
use Rattle.oauth2_device.proofs.device_access_token_request.DeviceAccessTokenRequest.follow.Given as goal

abbrev pub invariant-rounds : goal.invariant-rounds
invariant-rounds g l =
    g.W.PollWorld.is_ready l.world
    × IfSome l.kept (IsDeviceRequest l.self.request)
    × ((e : List (PollCall _))
    × Leads g.W.PollWorld.reads g.W.PollWorld.sends g.W.PollWorld.sleeps l.fn.world e l.world
    × SoFar g.TR.FromJson.meaning (device_answer l.self.request.base.reply_rule g.TR.FromJson.reading) l.self.request (as_nanos l.fn.timeout) l.fn.max_polls e l.poll l.sent)

abbrev pub decreases-rounds : goal.decreases-rounds
decreases-rounds g l = l.poll.polls_left
