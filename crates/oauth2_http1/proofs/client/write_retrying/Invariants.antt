use Rattle.std.proofs.Common.{List, ℕ}
use Rattle.std.specs.Prelude.{Result}
use Rattle.std.specs.declared.io.Error.{Error}
use Rattle.std.specs.Io.KnownBytes.{Keeps}
use Rattle.oauth2_http1.specs.Calls.{GoesOn, Made}
use Rattle.oauth2_http1.proofs.client.write_retrying.Given as goal

abbrev pub invariant-loop : goal.invariant-loop
invariant-loop g l =
    Keeps (g.W.Transmit.contents l.initial.writer) (g.W.Transmit.contents l.writer)
    × (before : List (Result ℕ Error)) × GoesOn before × Made g.W.Transmit.writes before l.initial.writer l.writer
