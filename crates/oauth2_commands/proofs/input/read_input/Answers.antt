use Rattle.std.proofs.Common.{rules, arith, add-one}
use Rattle.std.proofs.lemmas.Grind.{common_steps}
use Rattle.std.proofs.KnownBytes.{Consumes-trans}
use Rattle.oauth2_commands.proofs.Reading.{GivesBytes-none, GivesBytes-more, Calls-left}
use Rattle.oauth2_commands.proofs.input.read_input.Goals as goal

pub loop-init : goal.loop-init
loop-init g c = record { bytes = search rules; reads = GivesBytes-none g.R.ScriptReader.reads c.args.reader.now }

pub loop-preserved : goal.loop-preserved
loop-preserved g c = record {
  bytes = grind (arith, common_steps, Consumes-trans);
  reads = rw add-one
      (GivesBytes-more g.R.ScriptReader.reads c.loop.counter c.in-Ok.n c.args.reader.now c.loop.reader c.read.new.self
      c.in-Ok.n-test.1 c.loop.invariant.reads c.in-Ok.ensures.step);
}

pub returns-in_err-extend_from_slice-in-Ok-clause-calls : goal.returns-in_err-extend_from_slice-in-Ok-clause-calls
returns-in_err-extend_from_slice-in-Ok-clause-calls g c =
    Calls-left g.R.ScriptReader.reads c.from_residual.result c.args.reader.now c.read.new.self c.from_residual.ensures.1 (
      c.loop.counter,
      c.loop-test.true,
      GivesBytes-more g.R.ScriptReader.reads c.loop.counter c.in-Ok.n c.args.reader.now c.loop.reader c.read.new.self
          c.in-Ok.n-test.1 c.loop.invariant.reads c.in-Ok.ensures.step,
    )
