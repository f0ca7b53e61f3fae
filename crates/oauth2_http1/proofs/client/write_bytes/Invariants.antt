use Rattle.std.proofs.Common.{◌≡◌, ◌++◌, List, ℕ, length}
use Rattle.std.specs.Io.KnownBytes.{Appends}
use Rattle.oauth2_http1.specs.Calls.{Goes}
use Rattle.oauth2_http1.proofs.client.write_bytes.Given as goal

abbrev pub invariant-loop-rest : goal.invariant-loop-rest
invariant-loop-rest g l =
    ((front : List ℕ) × (l.bytes ≡ front ++ l.rest) × Appends (g.W.Transmit.contents l.initial.writer) (g.W.Transmit.contents l.writer) front)
    × Goes g.W.Transmit.writes l.initial.writer l.writer

abbrev pub decreases-loop-rest : goal.decreases-loop-rest
decreases-loop-rest g l = length l.rest
