use Rattle.std.proofs.Common.{[], ◌∷◌, refl, inl, inr}
use Rattle.std.specs.Prelude.{◌<ℤ◌}
use Rattle.oauth2_device.specs.Events.{Reading, Sent, Slept}
use Rattle.oauth2_device.specs.Poll.{device_answer}
use Rattle.oauth2_device.proofs.Rounds.{late, unprepared, decided, goes_on, at_limit}
use Rattle.oauth2_device.proofs.device_access_token_request.DeviceAccessTokenRequest.round.Goals as goal

pub returns-in-Expired-clause-turn : goal.returns-in-Expired-clause-turn
returns-in-Expired-clause-turn g c = (
  Reading c.now-now.result ∷ [],
  (c.now-now.new.self, c.now-now.ensures.reads, refl),
  tt,
  inl (late g.TR.FromJson.meaning (device_answer c.args.self.now.request.base.reply_rule g.TR.FromJson.reading) _ c.args.poll.now c.args.sent c.now-now.result c.expired_token_error.result (c.in-Expired.ensures.0 refl) c.expired_token_error.ensures),
)

pub returns-in-Err-clause-turn : goal.returns-in-Err-clause-turn
returns-in-Err-clause-turn g c =
    let before : ¬ (c.args.poll.now.deadline <ℤ c.now-now.result.nanosecond) = λ b. (let x = c.in-Ask.ensures.1 b in cc) in (
      Reading c.now-now.result ∷ [],
      (c.now-now.new.self, c.now-now.ensures.reads, refl),
      tt,
      inl (unprepared g.TR.FromJson.meaning (device_answer c.args.self.now.request.base.reply_rule g.TR.FromJson.reading) _ c.args.poll.now c.args.sent c.now-now.result before c.in-Err.fault c.unprepared.result c.next_request.result c.in-Err.is c.next_request.ensures.not_http c.unprepared.ensures),
    )

pub returns-in-Decided-clause-turn : goal.returns-in-Decided-clause-turn
returns-in-Decided-clause-turn g c =
    let before : ¬ (c.args.poll.now.deadline <ℤ c.now-now.result.nanosecond) = λ b. (let x = c.in-Ask.ensures.1 b in cc) in (
      Reading c.now-now.result ∷ Sent c.in-Ok.request c.send-reply.result ∷ [],
      (c.now-now.new.self, c.now-now.ensures.reads, (c.send-reply.new.self, c.send-reply.ensures.sends, refl)),
      (c.in-Ok.ensures.ok, tt),
      decided g.TR.FromJson.meaning (device_answer c.args.self.now.request.base.reply_rule g.TR.FromJson.reading) _ c.args.poll.now c.args.sent c.now-now.result before c.in-Ok.request c.send-reply.result c.in-Decided.result c.args.poll.now c.in-Decided.ensures,
    )

pub returns-in-Sleep-clause-turn : goal.returns-in-Sleep-clause-turn
returns-in-Sleep-clause-turn g c =
    let before : ¬ (c.args.poll.now.deadline <ℤ c.now-now.result.nanosecond) = λ b. (let x = c.in-Ask.ensures.1 b in cc) in (
      Reading c.now-now.result ∷ Sent c.in-Ok.request c.send-reply.result ∷ Slept c.in-Sleep.duration ∷ [],
      (c.now-now.new.self, c.now-now.ensures.reads, (c.send-reply.new.self, c.send-reply.ensures.sends, (c.sleep.new.self, c.sleep.ensures.sleeps, refl))),
      (c.in-Ok.ensures.ok, tt),
      goes_on g.TR.FromJson.meaning (device_answer c.args.self.now.request.base.reply_rule g.TR.FromJson.reading) ⊥ c.args.poll.now c.args.sent c.now-now.result before c.in-Ok.request c.send-reply.result c.in-Again.answer c.in-Again.ensures c.answer.result c.answer.ensures.step c.in-Sleep.duration c.answer.new.self c.in-Sleep.is c.answer.ensures.state,
    )

pub returns-in-Limit : goal.returns-in-Limit
returns-in-Limit g c =
    let before : ¬ (c.args.poll.now.deadline <ℤ c.now-now.result.nanosecond) = λ b. (let x = c.in-Ask.ensures.1 b in cc) in
    record {
      turn = (
        Reading c.now-now.result ∷ Sent c.in-Ok.request c.send-reply.result ∷ [],
        (c.now-now.new.self, c.now-now.ensures.reads, (c.send-reply.new.self, c.send-reply.ensures.sends, refl)),
        (c.in-Ok.ensures.ok, tt),
        inr (at_limit g.TR.FromJson.meaning (device_answer c.args.self.now.request.base.reply_rule g.TR.FromJson.reading) ⊥ c.args.poll.now c.args.sent c.now-now.result before c.in-Ok.request c.send-reply.result c.in-Again.answer c.in-Again.ensures c.answer.result c.answer.ensures.step c.with_text.result c.in-Limit.is c.with_text.ensures),
      );
      ready = c.send-reply.ensures.ready;
      kept = c.next_request.ensures.kept;
    }
