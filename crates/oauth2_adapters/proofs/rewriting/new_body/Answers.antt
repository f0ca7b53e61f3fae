use Rattle.std.proofs.Common.{◌≡◌, option_map, subst, sym, ap}
use Rattle.std.specs.Prelude.{IfOk}
use Rattle.std.proofs.lemmas.Str.{is_utf8-from_IsUtf8}
use Rattle.oauth2_adapters.specs.Objects.{object_in}
use Rattle.oauth2_adapters.specs.Rewriting.{new_body}
use Rattle.oauth2_adapters.proofs.Bodies.{object_of-not_utf8}
use Rattle.oauth2_adapters.proofs.rewriting.new_body.Goals as goal

pub returns-in-Ok-clause-value : goal.returns-in-Ok-clause-value
returns-in-Ok-clause-value g c =
    let both = c.in-Ok.ensures.cases in
    rw (is_utf8-from_IsUtf8 c.args.body.now both.1) (subst (λ t. IfOk c.new_text.result (λ new. option_map (λ v. v.items) new ≡ new_body (g.M.MemberChange.change c.args.change.now) (object_in t))) both.0 c.new_text.ensures.value)

pub returns-in-Err-clause-value : goal.returns-in-Err-clause-value
returns-in-Err-clause-value g c =
    sym (ap (new_body (g.M.MemberChange.change c.args.change.now)) (object_of-not_utf8 c.args.body.now (λ u. absurd (c.in-Err.ensures.cases.0 u))))
