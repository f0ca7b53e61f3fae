use Rattle.std.proofs.Common.{◌≡◌, true, Err, sym, ap, ◌∙◌, rules}
use Rattle.std.specs.Prelude.{is_some}
use Rattle.serde_json.specs.View.{view}
use Rattle.oauth2_script.specs.Views.{client_view}
use Rattle.oauth2_script.proofs.Refusals.{once_authenticated-both}
use Rattle.oauth2_script.proofs.script.once_authenticated.Goals as goal

pub returns-then-is_some-2-clause-read : goal.returns-then-is_some-2-clause-read
returns-then-is_some-2-clause-read c =
    let given : is_some c.args.assertion ≡ true = search rules in
    let kept : is_some c.args.client.secret ≡ true = search rules in
    once_authenticated-both (λ v. view v.now) c.args.assertion (client_view c.args.client) given kept ∙ ap Err (sym c.twice_authenticated.ensures)
