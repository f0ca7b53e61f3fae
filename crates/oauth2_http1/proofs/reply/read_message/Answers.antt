use Rattle.std.proofs.Common.{refl}
use Rattle.std.proofs.lemmas.Result.{err_from_is_err_and}
use Rattle.oauth2_http1.specs.Reply.{terms}
use Rattle.oauth2_http1.proofs.Causes.{body_caused}
use Rattle.oauth2_http1.proofs.CallLemmas.{Goes-trans, Took-trans, ReadFails-behind}
use Rattle.oauth2_http1.proofs.ReplySteps.{found_reply, refused_reply}
use Rattle.oauth2_http1.proofs.reply.read_message.Goals as goal

pub returns-in_err-body-clause-refused : goal.returns-in_err-body-clause-refused
returns-in_err-body-clause-refused g c =
    let p = err_from_is_err_and c.from_residual-in_err-body.result c.from_residual-in_err-body.ensures.1 in
    rw (p.1, p.2)
    (refused_reply c.args.client c.read_head.new.client c.in_ok-head.head _ _ c.in_err-body.field-0.0 c.args.most_bytes c.in_ok-head.ensures.head c.in_err-body.ensures.refused)

pub returns-clause-reply : goal.returns-clause-reply
returns-clause-reply g c =
    found_reply c.args.client c.read_head.new.client c.in_ok-head.head _ _ _ c.in_ok-body.body c.in_ok-head.ensures.head c.in_ok-body.ensures.body
    (record { response = c.in_ok-response.response; ended = c.in_ok-body.body.ended; persists = c.in_ok-head.head.persists }) c.in_ok-response.ensures.ok refl refl

pub returns-in_err-body-clause-cause : goal.returns-in_err-body-clause-cause
returns-in_err-body-clause-cause g c =
    let p = err_from_is_err_and c.from_residual-in_err-body.result c.from_residual-in_err-body.ensures.1 in
    let found = c.in_ok-head.ensures.head in
    rw (p.1, p.2)
    (body_caused c.in_err-body.field-0.0 (terms c.args.client 100) found.h found.decoder _ _ found.at (c.in_err-body.ensures.cause found.decoder found.reading))

pub returns-in_err-body-clause-took : goal.returns-in_err-body-clause-took
returns-in_err-body-clause-took g c =
    Took-trans g.R.Receive.remaining g.R.Receive.reads c.args.reader.now c.read_head.new.reader c.read_body.new.reader c.args.source.now c.read_head.new.source
    c.read_body.new.source c.read_head.ensures.took c.read_body.ensures.took

pub returns-clause-took : goal.returns-clause-took
returns-clause-took g c =
    Took-trans g.R.Receive.remaining g.R.Receive.reads c.args.reader.now c.read_head.new.reader c.read_body.new.reader c.args.source.now c.read_head.new.source
    c.read_body.new.source c.read_head.ensures.took c.read_body.ensures.took

pub returns-in_err-body-clause-failed : goal.returns-in_err-body-clause-failed
returns-in_err-body-clause-failed g c =
    let p = err_from_is_err_and c.from_residual-in_err-body.result c.from_residual-in_err-body.ensures.1 in
    rw (p.1, p.2) (ReadFails-behind g.R.Receive.reads c.in_err-body.field-0.0 c.args.reader.now c.read_head.new.reader c.read_body.new.reader
    c.in_ok-head.ensures.went c.in_err-body.ensures.failed)

pub returns-clause-went : goal.returns-clause-went
returns-clause-went g c =
    Goes-trans g.R.Receive.reads c.args.reader.now c.read_head.new.reader c.read_body.new.reader c.in_ok-head.ensures.went c.in_ok-body.ensures.went
