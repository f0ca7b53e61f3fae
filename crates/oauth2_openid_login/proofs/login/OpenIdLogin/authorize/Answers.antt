use Rattle.std.proofs.Common.{refl, sym, ◌∙◌}
use Rattle.std.proofs.lemmas.Result.{IfErr-weaker, IfOk-weaker}
use Rattle.oauth2_form.specs.Pairs.{form}
use Rattle.oauth2_openid_login.proofs.RefusalLaws.{login_shown, never_login, provider_shown}
use Rattle.oauth2_openid_login.proofs.login.OpenIdLogin.authorize.Goals as goal

pub returns-in-Some-clause-refusal : goal.returns-in-Some-clause-refusal
returns-in-Some-clause-refusal g c =
    (refl, provider_shown c.args.client.now c.args.self c.args.provider.now c.args.called.now (form c.args.query.now) c.in-Some.error (sym c.in-Some.ensures))

pub returns-in-Some-clause-memory : goal.returns-in-Some-clause-memory
returns-in-Some-clause-memory g c = λ is. absurd (never_login c.args.client.now c.args.self c.args.provider.now c.in-Some.error _ (sym c.in-Some.ensures) is)

pub returns-in-Some-clause-no_state : goal.returns-in-Some-clause-no_state
returns-in-Some-clause-no_state g c = λ none provider place. (let some = c.in-Some.ensures in absurd (cc))

pub returns-in-None-clause-authorized : goal.returns-in-None-clause-authorized
returns-in-None-clause-authorized g c =
    IfOk-weaker c.authorize_at_provider.result _ _ (λ v h. (h.0, record { at_provider = sym c.in-None.ensures; at_place = h.1; has_code = h.2 })) c.authorize_at_provider.ensures.authorized

pub returns-in-None-clause-refusal : goal.returns-in-None-clause-refusal
returns-in-None-clause-refusal g c =
    IfErr-weaker c.authorize_at_provider.result _ _ (λ refused h. (h.0, login_shown c.args.client.now c.args.self c.args.provider.now c.args.called.now (form c.args.query.now) (sym c.in-None.ensures) h.1 refused.error h.2 h.3)) c.authorize_at_provider.ensures.refusal

pub returns-in-None-clause-no_state : goal.returns-in-None-clause-no_state
returns-in-None-clause-no_state g c = λ none provider place. c.authorize_at_provider.ensures.no_state none place
