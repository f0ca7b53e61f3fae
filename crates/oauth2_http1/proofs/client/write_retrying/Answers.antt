use Rattle.std.proofs.Common.{Err, ◌∷◌}
use Rattle.std.proofs.KnownBytes.{Keeps-trans}
use Rattle.oauth2_http1.proofs.client.write_retrying.Goals as goal

pub loop-preserved : goal.loop-preserved
loop-preserved g c = (
  Keeps-trans _ _ _ c.loop.invariant.0 c.in-Err.ensures.bytes,
  Err c.in-Err.e ∷ c.loop.invariant.1,
  (c.is_interrupted.ensures c.if-not-is_interrupted.false, c.loop.invariant.2),
  (c.loop.writer, c.loop.invariant.3, c.in-Err.ensures.step),
)
