use Rattle.std.proofs.Common.{rules, ◌≡◌, Ok, ◌∷◌, ◌+◌, ◌-◌, ◌≤◌, arith}
use Rattle.std.proofs.lemmas.Result.{err_from_is_err_and}
use Rattle.oauth2_http1.proofs.CallLemmas.{Goes-refl, Took-refl, Took-none, Took-read}
use Rattle.oauth2_http1.proofs.source.ReplySource.fill.Goals as goal

pub returns-then-self-eq0-clause-took : goal.returns-then-self-eq0-clause-took
returns-then-self-eq0-clause-took g c = Took-refl g.R.Receive.remaining g.R.Receive.reads c.args.reader.now c.args.self.now

pub returns-then-self-eq0-2-clause-took : goal.returns-then-self-eq0-2-clause-took
returns-then-self-eq0-2-clause-took g c = Took-refl g.R.Receive.remaining g.R.Receive.reads c.args.reader.now c.args.self.now

pub returns-in-Err-clause-took : goal.returns-in-Err-clause-took
returns-in-Err-clause-took g c =
    Took-none g.R.Receive.remaining g.R.Receive.reads c.args.reader.now c.read_retrying.new.reader c.args.self.now c.in-Err.e
    c.in-Err.ensures.tried c.in-Err.ensures.bytes

pub returns-in_err-extend_from_slice-clause-took : goal.returns-in_err-extend_from_slice-clause-took
returns-in_err-extend_from_slice-clause-took g c =
    let fits : c.in-Ok.n ≤ c.args.self.now.bytes_left = search rules in
    let reads : c.args.self.now.reads_left - 1 + 1 ≡ c.args.self.now.reads_left = search rules in
    Took-read g.R.Receive.remaining g.R.Receive.reads c.args.reader.now c.read_retrying.new.reader c.args.self.now _ c.in-Ok.n
    c.read_retrying.new.chunk c.in-Ok.ensures.tried c.in-Ok.ensures.bound c.in-Ok.ensures.bytes (omega (arith, fits)) (omega (arith, reads))

pub returns-clause-took : goal.returns-clause-took
returns-clause-took g c =
    let fits : c.in-Ok.n ≤ c.args.self.now.bytes_left = search rules in
    let reads : c.args.self.now.reads_left - 1 + 1 ≡ c.args.self.now.reads_left = search rules in
    Took-read g.R.Receive.remaining g.R.Receive.reads c.args.reader.now c.read_retrying.new.reader c.args.self.now _ c.in-Ok.n
    c.read_retrying.new.chunk c.in-Ok.ensures.tried c.in-Ok.ensures.bound c.in-Ok.ensures.bytes (omega (arith, fits)) (omega (arith, reads))

pub returns-then-self-eq0-clause-failed : goal.returns-then-self-eq0-clause-failed
returns-then-self-eq0-clause-failed g c = Goes-refl g.R.Receive.reads c.args.reader.now

pub returns-then-self-eq0-2-clause-failed : goal.returns-then-self-eq0-2-clause-failed
returns-then-self-eq0-2-clause-failed g c = Goes-refl g.R.Receive.reads c.args.reader.now

pub returns-in-Err-clause-failed : goal.returns-in-Err-clause-failed
returns-in-Err-clause-failed g c = (c.in-Err.ensures.tried.before, c.in-Err.ensures.tried.going, c.in-Err.ensures.tried.made)

pub returns-in_err-extend_from_slice-clause-failed : goal.returns-in_err-extend_from_slice-clause-failed
returns-in_err-extend_from_slice-clause-failed g c =
    let p = err_from_is_err_and c.from_residual.result c.from_residual.ensures.1 in
    rw (p.1, p.2) (Ok c.in-Ok.n ∷ c.in-Ok.ensures.tried.before, c.in-Ok.ensures.tried.going, c.in-Ok.ensures.tried.made)

pub returns-clause-went : goal.returns-clause-went
returns-clause-went g c = (Ok c.in-Ok.n ∷ c.in-Ok.ensures.tried.before, c.in-Ok.ensures.tried.going, c.in-Ok.ensures.tried.made)
