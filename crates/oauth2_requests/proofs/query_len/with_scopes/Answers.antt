use Rattle.std.proofs.Common.{◌≡◌, ◌∙◌, [], ap, sym, rules}
use Rattle.form_urlencoded.specs.Form.{extend_pairs}
use Rattle.oauth2_form.specs.Length.{usize_len}
use Rattle.oauth2_json.specs.Words.{joined_words}
use Rattle.oauth2_requests.specs.Authorization.{scope_pairs}
use Rattle.oauth2_requests.proofs.QueryLenLaws.{one_scope}
use Rattle.oauth2_requests.proofs.query_len.with_scopes.Goals as goal

pub returns-in-Some : goal.returns-in-Some
returns-in-Some c = λ query start.
    c.len_with_pair.ensures query (joined_words c.args.scopes.now) start c.in-Some.ensures.some.1
    ∙ sym (ap (λ pairs. usize_len (extend_pairs query pairs)) (one_scope (joined_words c.args.scopes.now) c.in-Some.ensures.some.0))

pub returns-in-None : goal.returns-in-None
returns-in-None c = λ query start.
    let none : joined_words c.args.scopes.now ≡ [] = search rules in
    start ∙ sym (ap (λ text. usize_len (extend_pairs query (scope_pairs text))) none)
