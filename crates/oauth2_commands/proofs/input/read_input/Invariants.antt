use Rattle.std.specs.Io.KnownBytes.{Consumes}
use Rattle.oauth2_commands.specs.Input.{GivesBytes}
use Rattle.oauth2_commands.proofs.input.read_input.Given as goal

abbrev pub invariant-loop : goal.invariant-loop
invariant-loop g l = record {
  bytes : Consumes (g.R.ScriptReader.remaining l.initial.reader) (g.R.ScriptReader.remaining l.reader) l.input.items;
  reads : GivesBytes g.R.ScriptReader.reads l.counter l.initial.reader l.reader;
}
