use Rattle.std.proofs.Common.{◌∙◌, ap}
use Rattle.oauth2_wire.specs.Request.{view_of, IsCopyOf}
use Rattle.oauth2_wire.proofs.CopyLemmas.{copied_headers, IsRequestOf-copy}
use Rattle.oauth2_wire.proofs.request.copy_request.Goals as goal

pub returns-clause-copy : goal.returns-clause-copy
returns-clause-copy c =
    rw (c.from_parts.ensures.head, c.from_parts.ensures.body) (
      c.in_ok-method.ensures.cases ∙ c.method.ensures,
      rw c.uri.ensures at c.in_ok-uri.ensures.cases,
      c.version.ensures,
      copied_headers _ _ c.in_ok-headers.ensures.cases ∙ c.headers.ensures,
      c.in_ok-body.ensures.items ∙ c.as_slice.ensures.value ∙ ap (λ v. v.items) c.body.ensures,
    )

pub returns-clause-request : goal.returns-clause-request
returns-clause-request c = λ configuration text is.
    IsRequestOf-copy configuration text (view_of c.args.request.now) _ (returns-clause-copy c) is
