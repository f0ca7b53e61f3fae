use Rattle.oauth2_client_secret_jwt.proofs.CallLemmas.{no_time, no_bytes, signs, no_memory}
use Rattle.oauth2_client_secret_jwt.proofs.client_secret_jwt.ClientSecretJwtAssertionSource.assertion.Goals as goal

pub returns-in-Err : goal.returns-in-Err
returns-in-Err g c =
    no_time g.K.Clock.reads g.R.IdentifierSource.draws c.read_second.new.clock c.in-Err.error c.self.view_is c.in-Err.ensures.step

pub returns-in-Err-draw : goal.returns-in-Err-draw
returns-in-Err-draw g c =
    no_bytes g.K.Clock.reads g.R.IdentifierSource.draws c.read_second.new.clock c.draw.new.generator c.in-Ok.second c.in-Err-draw.error
    c.self.view_is c.in-Ok.ensures.step c.in-Err-draw.ensures

pub returns-in-Ok-jwt_of : goal.returns-in-Ok-jwt_of
returns-in-Ok-jwt_of g c =
    signs g.row.R-Error.Denot g.K.Clock.reads g.R.IdentifierSource.draws c.read_second.new.clock c.draw.new.generator c.in-Ok.second c.in-Ok-draw.drawn c.in-Ok-jwt_of.text
    c.self.view_is c.in-Ok.ensures.step c.in-Ok-draw.ensures c.in-Ok-jwt_of.ensures

pub returns-in-Err-jwt_of : goal.returns-in-Err-jwt_of
returns-in-Err-jwt_of g c =
    no_memory g.row.R-Error.Denot g.K.Clock.reads g.R.IdentifierSource.draws c.read_second.new.clock c.draw.new.generator c.in-Ok.second c.in-Ok-draw.drawn
    c.self.view_is c.in-Ok.ensures.step c.in-Ok-draw.ensures
