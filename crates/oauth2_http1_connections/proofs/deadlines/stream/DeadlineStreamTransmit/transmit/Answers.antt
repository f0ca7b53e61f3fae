use Rattle.std.proofs.Common.{inl, refl}
use Rattle.oauth2_http1_connections.proofs.deadlines.stream.DeadlineStreamTransmit.transmit.Goals as goal

pub returns-clause-step : goal.returns-clause-step
returns-clause-step g c = inl (c.limit.new.self, c.in_ok-limit.ensures.limits, c.transmit.ensures.step, refl, refl)
