use Rattle.std.proofs.Common.{rules, ◌≡◌, ◌≤◌, Option, Some, None, refl, ap, sym, ◌∙◌}
use Rattle.std.specs.Prelude.{min, unwrap_or, option_map}
use Rattle.std.specs.declared.time.Duration.{Duration}
use Rattle.std.specs.Duration.{as_nanos, max_nanos}
use Rattle.oauth2_retry_after.specs.RetryAfter.{retry_after}
use Rattle.oauth2_http1_connections.specs.retries.Pause.{pause_after}
use Rattle.oauth2_http1_connections.proofs.retries.PauseLemmas.{cut_twice}
use Rattle.oauth2_http1_connections.proofs.retries.pause.pause_after.Goals as goal

-- the nanoseconds of the wait that is asked for, or of another
nanos_or : (asked : Option Duration) (wait : Duration) → as_nanos (unwrap_or asked wait) ≡ unwrap_or (option_map as_nanos asked) (as_nanos wait)
nanos_or None wait = refl
nanos_or (Some asked) wait = refl

pub returns-in-Ok : goal.returns-in-Ok
returns-in-Ok g c =
    let fits : as_nanos c.args.most ≤ max_nanos = search rules in
    c.shorter.ensures ∙ ap (min (as_nanos c.args.most)) (ap as_nanos c.unwrap_or.ensures ∙ nanos_or c.retry_after.result c.args.wait ∙ ap (λ o. unwrap_or o (as_nanos c.args.wait)) c.retry_after.ensures)
    ∙ cut_twice (as_nanos c.args.most) (as_nanos c.args.wait) (retry_after c.in-Ok.reply) fits
    ∙ sym (ap (pause_after (as_nanos c.args.most) (as_nanos c.args.wait)) c.in-Ok.is)
