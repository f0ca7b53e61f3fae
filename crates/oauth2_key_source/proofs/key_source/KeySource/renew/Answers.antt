use Rattle.std.proofs.Common.{ap}
use Rattle.oauth2_key_source.specs.Source.{Source, after_failed_request, after_renewal}
use Rattle.oauth2_key_source.proofs.key_source.KeySource.renew.Goals as goal

pub returns-in-Ok-clause-call : goal.returns-in-Ok-clause-call
returns-in-Ok-clause-call g c = (
  c.in-Ok.keys,
  rw (ap (λ (s : Source). s.query) c.self.view_is) at c.in-Ok.ensures.once,
  ap (λ (s : Source). after_renewal s c.args.now.nanosecond c.in-Ok.keys) c.self.view_is,
)

pub returns-in-Err-clause-call : goal.returns-in-Err-clause-call
returns-in-Err-clause-call g c = (
  rw (ap (λ (s : Source). s.query) c.self.view_is) at c.in-Err.ensures.once,
  ap (λ (s : Source). after_failed_request s c.args.now.nanosecond) c.self.view_is,
)
