use Rattle.std.proofs.Common.{◌≡◌, ◌∙◌, ◌+◌, ◌++◌, ◌∷◌, [], map, take, ap, sym, arith}
use Rattle.std.proofs.lemmas.Grind.{common_steps}
use Rattle.form_urlencoded.specs.Form.{extend_pairs}
use Rattle.oauth2_form.specs.Length.{usize_len}
use Rattle.oauth2_wire.specs.Texts.{param_pair}
use Rattle.oauth2_requests.proofs.QueryLenLaws.{extend_pairs-append}
use Rattle.oauth2_requests.proofs.query_len.with_extra_params.Goals as goal

pub loop-name-preserved : goal.loop-name-preserved
loop-name-preserved c = λ query start.
    let longer : map param_pair (take (c.loop-name.name-index + 1) c.args.extra_params.now) ≡ map param_pair (take c.loop-name.name-index c.args.extra_params.now) ++ (c.as_str.result.now, c.as_str-in-loop-name.result.now) ∷ [] = grind (arith, common_steps) in
    c.with_pair-len.ensures _ (c.loop-name.invariant query start)
    ∙ ap usize_len (sym (extend_pairs-append query (map param_pair (take c.loop-name.name-index c.args.extra_params.now)) _))
    ∙ ap (λ pairs. usize_len (extend_pairs query pairs)) (sym longer)
