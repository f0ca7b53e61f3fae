use Rattle.std.proofs.Common.{[], ◌∙◌, map, Ok, sym, ap, append-nil, rules}
use Rattle.std.proofs.lemmas.List.{map-append}
use Rattle.std.proofs.lemmas.Result.{err_from_is_err_and}
use Rattle.oauth2_json.specs.Values.{each_word}
use Rattle.oauth2_json.proofs.Words.{pieces, in_front, some_parts, none_parts, each_turn, ends_with_fault}
use Rattle.oauth2_json.proofs.spaced.pieces.Goals as goal

pub returns-in_err-piece : goal.returns-in_err-piece
returns-in_err-piece g c =
    let p = err_from_is_err_and c.from_residual.result c.from_residual.ensures.1 in
    let parts = some_parts c.loop-first.rest.now c.split_once.result c.in-Some.first c.in-Some.later c.split_once.ensures.cases c.in-Some.is in
    let l = c.loop-first in
    rw (p.1, p.2) (ends_with_fault c.in_err-piece.field-0.0 g.T.FromJson.reading (map g.T.FromJson.meaning l.read.items) c.in-Some.first.now (pieces c.in-Some.later.now) (pieces l.rest.now) (each_word g.T.FromJson.reading (pieces c.args.text.now)) c.in_err-piece.ensures parts l.invariant.1)

pub loop-first-preserved : goal.loop-first-preserved
loop-first-preserved g c =
    let l = c.loop-first in
    let parts = some_parts l.rest.now c.split_once.result c.in-Some.first c.in-Some.later c.split_once.ensures.cases c.in-Some.is in
    let turn = each_turn g.T.FromJson.reading (map g.T.FromJson.meaning l.read.items) c.in-Some.first.now (pieces c.in-Some.later.now) (g.T.FromJson.meaning c.in_ok-piece.field-0) c.in_ok-piece.ensures in (
      search rules,
      rw (c.in_ok-push.ensures.items, map-append) (turn ∙ ap (λ ps. in_front (map g.T.FromJson.meaning l.read.items) (each_word g.T.FromJson.reading ps)) (sym parts) ∙ l.invariant.1),
    )

pub returns-in_err-piece-2 : goal.returns-in_err-piece-2
returns-in_err-piece-2 g c =
    let l = c.loop-first in
    let p = err_from_is_err_and c.from_residual-in_err-piece-2.result c.from_residual-in_err-piece-2.ensures.1 in
    let parts = none_parts l.rest.now c.split_once.result c.split_once.ensures.cases c.in_default.is in
    rw (p.1, p.2) (ends_with_fault c.in_err-piece-2.field-0.0 g.T.FromJson.reading (map g.T.FromJson.meaning l.read.items) l.rest.now [] (pieces l.rest.now) (each_word g.T.FromJson.reading (pieces c.args.text.now)) c.in_err-piece-2.ensures parts l.invariant.1)

pub returns : goal.returns
returns g c =
    let l = c.loop-first in
    let done = map g.T.FromJson.meaning l.read.items in
    let parts = none_parts l.rest.now c.split_once.result c.split_once.ensures.cases c.in_default.is in
    let turn = each_turn g.T.FromJson.reading done l.rest.now [] (g.T.FromJson.meaning c.in_ok-piece-2.field-0) c.in_ok-piece-2.ensures in
    rw (c.in_ok-push-2.ensures.items, map-append) (sym (ap (λ ps. in_front done (each_word g.T.FromJson.reading ps)) (sym parts) ∙ l.invariant.1) ∙ sym turn ∙ ap Ok (append-nil _))
