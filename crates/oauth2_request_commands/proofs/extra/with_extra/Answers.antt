use Rattle.std.proofs.Common.{◌≡◌, ℕ, ◌+◌, List, [], ◌∷◌, ◌++◌, map, take, sym, ap, ◌∙◌}
use Rattle.std.proofs.Common.{rules, arith, append-nil, append_assoc}
use Rattle.std.proofs.Math.Path.{fun_ext}
use Rattle.std.proofs.lemmas.Grind.{common_steps}
use Rattle.oauth2_wire.specs.ServerView.{pair_texts}
use Rattle.oauth2_request_commands.proofs.extra.with_extra.Goals as goal

pub loop-name-init : goal.loop-name-init
loop-name-init g c =
    let laws = (g.met.T.Extensible c.lifetimes (search rules)).laws in
    let none = ap (g.T.Extensible.with_params c.args.request) (fun_ext append-nil) in
    sym (none ∙ (laws c.args.request (λ own. own) (λ own. own)).0)

pub loop-name-preserved : goal.loop-name-preserved
loop-name-preserved g c =
    let laws = (g.met.T.Extensible c.lifetimes (search rules)).laws in
    let before = map pair_texts (take c.loop-name.name-index c.args.extra_params.now) in
    let pair : List ℕ × List ℕ = (c.as_str.result.now, c.as_str-in-loop-name.result.now) in
    let with_one : List (List ℕ × List ℕ) → List (List ℕ × List ℕ) = λ own. own ++ (pair ∷ []) in
    let step : with_one before
    ≡ map pair_texts (take (c.loop-name.name-index + 1) c.args.extra_params.now) =
    grind (arith, common_steps) in
    let twice = (laws c.args.request (λ own. own ++ before) with_one).1 in
    rw (c.in_ok-request.ensures, c.loop-name.invariant, twice, ← step)
    (ap (g.T.Extensible.with_params c.args.request)
    (fun_ext (λ own. append_assoc own before (pair ∷ []))))
