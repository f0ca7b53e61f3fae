use Rattle.std.proofs.Common.{◌≡◌, Some, ap, ◌∙◌, rules}
use Rattle.url.specs.Setters.{set_query}
use Rattle.oauth2_form.proofs.QueryLaws.{IsAscii-from_ExtendsForm, set_query-extended, ExtendsQuery-from_form}
use Rattle.oauth2_form.proofs.query.with_query.Goals as goal

pub ascii_str-requires : goal.ascii_str-requires
ascii_str-requires c = IsAscii-from_ExtendsForm c.args.url.now c.args.form.now c.requires.form.0 c.requires.valid c.requires.form.1

pub returns-clause-ok : goal.returns-clause-ok
returns-clause-ok c = λ pairs extends.
    let copied : c.in_ok-new.new ≡ c.args.url.now = search rules in
    let set : c.set_query.new.self ≡ set_query c.in_ok-new.new (Some c.args.form.now) = search rules in
    ExtendsQuery-from_form c.args.url.now c.set_query.new.self c.args.form.now pairs extends
    (set ∙ ap (λ u. set_query u (Some c.args.form.now)) copied ∙ set_query-extended c.args.url.now c.args.form.now pairs c.requires.valid extends)
