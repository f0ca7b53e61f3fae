use Rattle.std.proofs.Common.{ap, sym}
use Rattle.std.specs.Prelude.{option_map}
use Rattle.oauth2_retry_after.specs.RetryAfter.{nanoseconds_of}
use Rattle.oauth2_retry_after.proofs.Delays.{no_delay}
use Rattle.oauth2_retry_after.proofs.busy_reply.delay.Goals as goal

pub returns-in-Err : goal.returns-in-Err
returns-in-Err c = sym (ap (option_map nanoseconds_of) (no_delay c.args.value.now.bytes (λ seen. let shown = c.in-Err.ensures.succeeds.1 seen in absurd (cc))))
