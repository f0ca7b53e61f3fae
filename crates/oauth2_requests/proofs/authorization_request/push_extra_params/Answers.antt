use Rattle.std.proofs.Common.{◌≡◌, ◌+◌, ◌++◌, ◌∷◌, [], map, take, sym, subst, arith}
use Rattle.std.proofs.lemmas.Grind.{common_steps}
use Rattle.oauth2_wire.specs.Texts.{param_pair}
use Rattle.oauth2_form.specs.ExtendsForm.{ExtendsForm}
use Rattle.oauth2_form.proofs.QueryLaws.{ExtendsForm-then}
use Rattle.oauth2_requests.proofs.authorization_request.push_extra_params.Goals as goal

pub loop-name-preserved : goal.loop-name-preserved
loop-name-preserved c =
    let longer : map param_pair (take (c.loop-name.name-index + 1) c.args.extra_params.now) ≡ map param_pair (take c.loop-name.name-index c.args.extra_params.now) ++ (c.as_str.result.now, c.as_str-in-loop-name.result.now) ∷ [] = grind (arith, common_steps) in
    let more = ExtendsForm-then c.loop-name.invariant c.in_ok-append_pair.ensures.extends in
    subst (ExtendsForm c.args.form.now.items c.append_pair.new.form.items) (sym longer) more
