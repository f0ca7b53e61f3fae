use Rattle.std.proofs.Common.{rules, ◌≡◌, Ok, ◌∷◌, ◌++◌, take, inl, inr, subst}
use Rattle.std.proofs.KnownBytes.{Appends-trans}
use Rattle.std.proofs.lemmas.Result.{err_from_is_err_and}
use Rattle.oauth2_http1.specs.Calls.{Made}
use Rattle.oauth2_http1.proofs.CallLemmas.{Goes-trans, Fails-behind, TakesNone-behind, moves_front}
use Rattle.oauth2_http1.proofs.client.write_bytes.Goals as goal

pub returns-in_err-n-clause-calls : goal.returns-in_err-n-clause-calls
returns-in_err-n-clause-calls g c =
    let p = err_from_is_err_and c.from_residual.result c.from_residual.ensures.1 in
    rw (p.1, p.2) (inl (Fails-behind g.W.Transmit.writes c.in_err-n.field-0.0 c.args.writer.now c.loop-rest.writer c.write_retrying.new.writer
    c.loop-rest.invariant.1 c.in_err-n.ensures.made))

pub returns-then-n-eq0-clause-calls : goal.returns-then-n-eq0-clause-calls
returns-then-n-eq0-clause-calls g c =
    let (rs, on, made) = c.in_ok-n.ensures.made in
    let none : c.in_ok-n.n ≡ 0 = search rules in
    let last = subst (λ n. Made g.W.Transmit.writes (Ok n ∷ rs) c.loop-rest.writer c.write_retrying.new.writer) none made in
    inr (TakesNone-behind g.W.Transmit.writes c.from.result c.args.writer.now c.loop-rest.writer c.write_retrying.new.writer
    c.loop-rest.invariant.1 (rs, on, last, c.from.ensures))

pub loop-rest-preserved : goal.loop-rest-preserved
loop-rest-preserved g c =
    let (done, split, appended) = c.loop-rest.invariant.0 in
    let (rs, on, made) = c.in_ok-n.ensures.made in
    let rest = c.loop-rest.rest.now in
    let n = c.in_ok-n.n in (
      (done ++ take n rest, moves_front _ done rest n split, Appends-trans _ _ _ _ _ appended c.in_ok-n.ensures.bytes),
      Goes-trans g.W.Transmit.writes c.args.writer.now c.loop-rest.writer c.write_retrying.new.writer c.loop-rest.invariant.1
          (Ok n ∷ rs, on, made),
    )
