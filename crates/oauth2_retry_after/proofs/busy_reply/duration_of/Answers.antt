use Rattle.std.proofs.Common.{rules, ◌<◌, ◌^◌, ap, ◌∙◌}
use Rattle.std.specs.Str.Parse.{digits_value}
use Rattle.oauth2_retry_after.proofs.Delays.{read_delay, long_delay, short_delay, past_each}
use Rattle.oauth2_retry_after.specs.RetryAfter.{nanoseconds_of}
use Rattle.oauth2_retry_after.proofs.busy_reply.duration_of.Goals as goal

pub returns-in-Ok : goal.returns-in-Ok
returns-in-Ok c =
    let few : c.in-Ok.seconds < 2 ^ 64 = search rules in
    c.from_secs.ensures ∙ short_delay c.in-Ok.seconds few ∙ ap nanoseconds_of (read_delay c.args.seconds.now c.in-Ok.seconds c.in-Ok.ensures.value.0 c.requires)

pub returns-in-Err : goal.returns-in-Err
returns-in-Err c = past_each (digits_value 10 c.args.seconds.now) (long_delay c.args.seconds.now c.in-Err.ensures.value.0 c.requires)
