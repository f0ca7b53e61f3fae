use Rattle.std.proofs.Common.{◌≡◌, ◌+◌, List, [], ◌∷◌, ◌++◌, ℕ, map, take, refl, sym, ap, arith, append-nil}
use Rattle.std.proofs.lemmas.Grind.{common_steps}
use Rattle.std.proofs.lemmas.Result.{err_from_is_err_and}
use Rattle.oauth2_form.specs.Pairs.{Pair}
use Rattle.oauth2_wire.specs.ServerView.{pair_texts}
use Rattle.oauth2_grant_commands.proofs.Names.{fault_told, one_more}
use Rattle.oauth2_grant_commands.proofs.token_grant.with_extra.Goals as goal

pub loop-name-init : goal.loop-name-init
loop-name-init g c =
    let r = c.args.request in
    (refl, sym (ap (λ (pairs : List Pair). record r { base = record r.base { extra_params = pairs } }) (append-nil r.base.extra_params)))

pub loop-name-preserved : goal.loop-name-preserved
loop-name-preserved g c =
    let before = map pair_texts (take c.loop-name.name-index c.args.extra.now) in
    let pair : List ℕ × List ℕ = (c.as_str.result.now, c.as_str-in-loop-name.result.now) in
    let step : before ++ (pair ∷ []) ≡ map pair_texts (take (c.loop-name.name-index + 1) c.args.extra.now) =
    grind (arith, common_steps) in
    rw (← step) (one_more c.args.request c.loop-name.request c.in_ok-request.request before pair c.loop-name.invariant c.in_ok-request.ensures.ok)

pub returns-in_err-request-clause-err : goal.returns-in_err-request-clause-err
returns-in_err-request-clause-err g c =
    let before = map pair_texts (take c.loop-name.name-index c.args.extra.now) in
    let pair : List ℕ × List ℕ = (c.as_str.result.now, c.as_str-in-loop-name.result.now) in
    let step : before ++ (pair ∷ []) ≡ map pair_texts (take (c.loop-name.name-index + 1) c.args.extra.now) =
    grind (arith, common_steps) in
    let p = err_from_is_err_and c.from_residual.result c.from_residual.ensures.1 in
    rw (p.1, p.2) (fault_told pair_texts c.args.extra.now c.loop-name.name-index before pair c.in_err-request.field-0.0 step c.in_err-request.ensures.err)
