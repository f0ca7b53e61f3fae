use Rattle.oauth2_callers.proofs.device.polled_token.Goals as goal

pub request-requires-clause-clock : goal.request-requires-clause-clock
request-requires-clause-clock g c = rw c.set_time_fn.ensures.clock c.requires.clock
