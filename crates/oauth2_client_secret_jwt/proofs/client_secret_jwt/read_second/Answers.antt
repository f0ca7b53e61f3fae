use Rattle.std.proofs.Common.{sym}
use Rattle.oauth2_client_secret_jwt.proofs.client_secret_jwt.read_second.Goals as goal

pub returns-in-Some-clause-step : goal.returns-in-Some-clause-step
returns-in-Some-clause-step g c = (c.in-Ok.moment, c.in-Ok.ensures, sym c.in-Some.ensures.value)

pub returns-in-None-clause-step : goal.returns-in-None-clause-step
returns-in-None-clause-step g c = (c.in-Ok.moment, c.in-Ok.ensures, sym c.in-None.ensures.value)
