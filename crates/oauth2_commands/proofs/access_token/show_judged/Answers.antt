use Rattle.std.proofs.Common.{refl, inl, inr, subst}
use Rattle.std.proofs.lemmas.Result.{IfOk-weaker}
use Rattle.oauth2_signed_tokens.specs.access_tokens.AccessToken.{AccessToken}
use Rattle.oauth2_signed_tokens.specs.access_tokens.Introspection.{introspection_of}
use Rattle.oauth2_request_commands.specs.Introspect.{introspection_json}
use Rattle.oauth2_request_commands.specs.Out.{AddsOutput, success_output}
use Rattle.oauth2_commands.proofs.IdTokens.{added}
use Rattle.oauth2_commands.proofs.access_token.show_judged.Goals as goal

pub returns-in-Ok : goal.returns-in-Ok
returns-in-Ok c =
    IfOk-weaker c.show_introspection.result _ _
    (λ status printed.
    added _ _ status _ (inl (c.in-Ok.ensures.succeeds.0 refl, refl))
    (subst
    (λ (t : AccessToken). AddsOutput (c.args.events.now) c.show_introspection.new.events status (success_output (introspection_json (introspection_of t tt))))
    c.in-Ok.ensures.same printed))
    c.show_introspection.ensures

pub returns-in-Err : goal.returns-in-Err
returns-in-Err c =
    IfOk-weaker c.show_error_text.result _ _
    (λ status printed. added _ _ status _ (inr (c.in-Err.refused.fault, c.in-Err.ensures.refused, refl)) printed)
    c.show_error_text.ensures
