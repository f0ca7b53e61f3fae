use Rattle.std.proofs.Common.{◌≡◌, subst, sym, ap}
use Rattle.std.specs.Prelude.{IfOk}
use Rattle.std.proofs.lemmas.Str.{is_utf8-from_IsUtf8}
use Rattle.oauth2_adapters.specs.Objects.{object_in}
use Rattle.oauth2_adapters.specs.ErrorsAtStatus200.{tells_error}
use Rattle.oauth2_adapters.proofs.Bodies.{object_of-not_utf8}
use Rattle.oauth2_adapters.proofs.error_body.tells_error.Goals as goal

pub returns-in-Ok-clause-value : goal.returns-in-Ok-clause-value
returns-in-Ok-clause-value c =
    let both = c.in-Ok.ensures.cases in
    rw (is_utf8-from_IsUtf8 c.args.body.now both.1) (subst (λ t. IfOk c.text_tells_error.result (λ told. told ≡ tells_error (object_in t))) both.0 c.text_tells_error.ensures.value)

pub returns-in-Err-clause-value : goal.returns-in-Err-clause-value
returns-in-Err-clause-value c = sym (ap tells_error (object_of-not_utf8 c.args.body.now (λ u. absurd (c.in-Err.ensures.cases.0 u))))
