use Rattle.std.proofs.Common.{rules, ◌≤◌, [], ◌∷◌, ◌++◌, refl, subst, ℕ}
use Rattle.std.specs.Prelude.{pos, ◌+ℤ◌}
use Rattle.std.specs.Duration.{as_nanos, max_nanos}
use Rattle.jiff.specs.Words.{IsTimestampNanos}
use Rattle.oauth2_poll.specs.Step.{TimeoutFits}
use Rattle.oauth2_device.specs.Events.{Reading}
use Rattle.oauth2_device.specs.Poll.{device_answer}
use Rattle.oauth2_device.proofs.LeadsFacts.{Leads-append, EachRequest-append}
use Rattle.oauth2_device.proofs.Traces.{too_long, out_of_range, started, last_round, next_round, polls}
use Rattle.oauth2_device.proofs.device_access_token_request.DeviceAccessTokenRequest.follow.Goals as goal

pub returns-then-not-timeout_fits-clause-poll : goal.returns-then-not-timeout_fits-clause-poll
returns-then-not-timeout_fits-clause-poll g c =
    let r = c.args.self.now.request in
    let bound : as_nanos c.settings-settings.result.interval ≤ max_nanos = search rules in
    let interval = subst (λ (n : ℕ). n ≤ max_nanos) c.settings-settings.ensures.interval bound in
    let beyond : ¬ (TimeoutFits (as_nanos c.args.timeout)) = λ h. search (rules, c.timeout_fits.ensures.1 h) in (
      [],
      refl,
      polls g.TR.FromJson.meaning g.TR.FromJson.reading r (as_nanos c.args.timeout) c.args.max_polls [] _ interval tt
          (too_long g.TR.FromJson.meaning (device_answer r.base.reply_rule g.TR.FromJson.reading) r (as_nanos c.args.timeout) c.args.max_polls c.with_text.result beyond c.with_text.ensures),
    )

pub returns-in_default-clause-poll : goal.returns-in_default-clause-poll
returns-in_default-clause-poll g c =
    let r = c.args.self.now.request in
    let t = c.now-start.result in
    let bound : as_nanos c.settings-settings.result.interval ≤ max_nanos = search rules in
    let interval = subst (λ (n : ℕ). n ≤ max_nanos) c.settings-settings.ensures.interval bound in
    let fits : TimeoutFits (as_nanos c.args.timeout) = search rules in
    let beyond : ¬ (IsTimestampNanos (c.now-start.result.nanosecond +ℤ pos (as_nanos c.args.timeout))) = λ h. search (rules, c.new.ensures.variant.1 h) in (
      Reading t ∷ [],
      (c.now-start.new.self, c.now-start.ensures.reads, refl),
      polls g.TR.FromJson.meaning g.TR.FromJson.reading r (as_nanos c.args.timeout) c.args.max_polls (Reading t ∷ []) _ interval tt
          (out_of_range g.TR.FromJson.meaning (device_answer r.base.reply_rule g.TR.FromJson.reading) r (as_nanos c.args.timeout) c.args.max_polls t c.with_text-in_default.result fits beyond c.with_text-in_default.ensures),
    )

pub rounds-init : goal.rounds-init
rounds-init g c =
    let r = c.args.self.now.request in
    let t = c.now-start.result in
    let fits : TimeoutFits (as_nanos c.args.timeout) = search rules in
    let within : IsTimestampNanos (c.now-start.result.nanosecond +ℤ pos (as_nanos c.args.timeout)) = search rules in
    let is = rw (c.settings-settings.ensures.interval, c.settings-settings.ensures.cap, c.settings-settings.ensures.polls) at c.in-Some.ensures.value in (
      c.now-start.ensures.ready,
      tt,
      (
        Reading t ∷ [],
        (c.now-start.new.self, c.now-start.ensures.reads, refl),
        started g.TR.FromJson.meaning (device_answer r.base.reply_rule g.TR.FromJson.reading) r (as_nanos c.args.timeout) c.args.max_polls t c.in-Some.poll fits within c.requires.polls is,
      ),
    )

pub returns-in-Some-round-clause-poll : goal.returns-in-Some-round-clause-poll
returns-in-Some-round-clause-poll g c =
    let r = c.args.self.now.request in
    let bound : as_nanos c.settings-settings.result.interval ≤ max_nanos = search rules in
    let interval = subst (λ (n : ℕ). n ≤ max_nanos) c.settings-settings.ensures.interval bound in
    let h = c.rounds.invariant.2 in
    let turn = c.in-Some-round.ensures.turn in (
      h.0 ++ turn.0,
      Leads-append _ _ _ _ h.0 turn.0 _ _ h.1 turn.1,
      polls g.TR.FromJson.meaning g.TR.FromJson.reading r (as_nanos c.args.timeout) c.args.max_polls (h.0 ++ turn.0) _ interval
          (EachRequest-append _ h.0 turn.0 h.2.requests turn.2)
          (last_round g.TR.FromJson.meaning (device_answer r.base.reply_rule g.TR.FromJson.reading) r (as_nanos c.args.timeout) c.args.max_polls h.0 c.rounds.poll c.rounds.sent h.2 turn.0 c.in-Some-round.result c.round.new.poll turn.3),
    )

pub rounds-preserved : goal.rounds-preserved
rounds-preserved g c =
    let r = c.args.self.now.request in
    let h = c.rounds.invariant.2 in
    let turn = c.in_default-round.ensures.turn in (
      c.round.ensures.ready,
      c.round.ensures.kept,
      (
        h.0 ++ turn.0,
        Leads-append _ _ _ _ h.0 turn.0 _ _ h.1 turn.1,
        next_round g.TR.FromJson.meaning (device_answer r.base.reply_rule g.TR.FromJson.reading) r (as_nanos c.args.timeout) c.args.max_polls h.0 c.rounds.poll c.rounds.sent h.2 turn.0 c.round.new.poll turn.2 turn.3,
      ),
    )
