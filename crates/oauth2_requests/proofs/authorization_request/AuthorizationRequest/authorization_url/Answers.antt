use Rattle.std.proofs.Common.{◌≡◌, [], ap, sym, subst, rules}
use Rattle.std.specs.Prelude.{unwrap_or}
use Rattle.oauth2_form.specs.Query.{ExtendsQuery}
use Rattle.oauth2_form.proofs.QueryLaws.{ExtendsForm-of_equals}
use Rattle.oauth2_requests.specs.Authorization.{query_pairs}
use Rattle.oauth2_requests.proofs.authorization_request.AuthorizationRequest.authorization_url.Goals as goal

pub with_query-requires-clause-form : goal.with_query-requires-clause-form
with_query-requires-clause-form c =
    let same : c.args.self.now.auth_url.url ≡ c.url-url.result.now = search rules in
    (query_pairs c.args.self.now, ExtendsForm-of_equals (ap (λ u. unwrap_or u.query []) same) c.as_slice.ensures.value c.in-Ok.ensures)

pub returns-in-Ok-with_query-clause-ok : goal.returns-in-Ok-with_query-clause-ok
returns-in-Ok-with_query-clause-ok c =
    let same : c.args.self.now.auth_url.url ≡ c.url-url.result.now = search rules in
    let written = ExtendsForm-of_equals (ap (λ u. unwrap_or u.query []) same) c.as_slice.ensures.value c.in-Ok.ensures in
    subst (λ u. ExtendsQuery u c.in-Ok-with_query.extended (query_pairs c.args.self.now)) (sym same) (c.in-Ok-with_query.ensures.ok _ written)
