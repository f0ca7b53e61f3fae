use Rattle.std.proofs.Common.{refl, sym, subst}
use Rattle.std.specs.Prelude.{nat_lt}
use Rattle.oauth2_http1.specs.Kept.{ReadsAny}
use Rattle.oauth2_http1.proofs.CallLemmas.{Took-within, Took-any}
use Rattle.oauth2_http1.proofs.reply.take_reply.Goals as goal

pub returns-in-Ok-clause-reads : goal.returns-in-Ok-clause-reads
returns-in-Ok-clause-reads g c =
    Took-within g.R.Receive.remaining g.R.Receive.reads c.args.bounds.now c.args.reader.now c.read_message.new.reader _ c.read_message.new.source
    c.read_message.ensures.took c.most_bytes.ensures refl

pub returns-in-Err-clause-reads : goal.returns-in-Err-clause-reads
returns-in-Err-clause-reads g c =
    Took-within g.R.Receive.remaining g.R.Receive.reads c.args.bounds.now c.args.reader.now c.read_message.new.reader _ c.read_message.new.source
    c.read_message.ensures.took c.most_bytes.ensures refl

pub returns-in-Err-clause-came : goal.returns-in-Err-clause-came
returns-in-Err-clause-came g c =
    subst (λ most. ReadsAny g.R.Receive.remaining g.R.Receive.reads c.args.bounds.now (nat_lt c.read_message.new.source.bytes_left most)
    c.args.reader.now c.read_message.new.reader) (sym c.most_bytes-in-Err.ensures)
    (Took-any g.R.Receive.remaining g.R.Receive.reads c.args.bounds.now c.args.reader.now c.read_message.new.reader _ c.read_message.new.source
    c.read_message.ensures.took c.most_bytes.ensures refl)
