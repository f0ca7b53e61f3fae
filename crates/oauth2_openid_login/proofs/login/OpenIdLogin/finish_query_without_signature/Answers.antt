use Rattle.std.proofs.Common.{◌≡◌, IfOk, refl, sym, ap, ◌∙◌, subst, inl, inr, rules}
use Rattle.jiff.specs.Types.{Timestamp}
use Rattle.oauth2_form.specs.Pairs.{form}
use Rattle.oauth2_redirect.specs.Login.{LoginView}
use Rattle.oauth2_redirect.specs.Redirect.{HoldsTexts}
use Rattle.oauth2_redirect.proofs.EndLaws.{state-of_code}
use Rattle.oauth2_openid.specs.Claims.{Expectation}
use Rattle.oauth2_openid.specs.Seen.{token_of}
use Rattle.oauth2_openid.specs.TokenRules.{Holds}
use Rattle.oauth2_openid_login.specs.declared.login_refusal.RefusedOpenIdLogin.{RefusedOpenIdLogin}
use Rattle.oauth2_openid_login.specs.End.{EndsWithCode}
use Rattle.oauth2_openid_login.specs.Provider.{expected_of}
use Rattle.oauth2_openid_login.proofs.EndLaws.{openid_login-given_back}
use Rattle.oauth2_openid_login.proofs.RefusalLaws.{shown_provider, shown_place}
use Rattle.oauth2_openid_login.proofs.login.OpenIdLogin.finish_query_without_signature.Goals as goal

pub returns-in-Ok : goal.returns-in-Ok
returns-in-Ok g c =
    let login = c.args.self in
    let wanted = expected_of c.args.provider.now c.args.client.now login in
    let it = c.in-Ok.login in
    let found = c.in-Ok.ensures.authorized.1 in
    let coded = found.has_code in
    let yes = state-of_code login.login.state login.login.issuer (form c.args.query.now) it.code coded in
    let same = c.in-Ok.ensures.expected in
    let ends = λ (l : LoginView) (e : Expectation). EndsWithCode g.TR.FromJson.meaning g.TE.FromJson.meaning g.TR.FromJson.reading g.TE.FromJson.reading g.C.SyncHttpClient.step g.TR.TokenResponse.access_token g.TR.HasIdToken.token_type_text g.TR.HasIdToken.id_token c.args.client.now l it.code e (g.K.FnOnce.post c.args.clock tt) c.args.http_client.now c.end_with_code.result c.end_with_code.new.http_client in
    let ended = subst (λ (l : LoginView). ends l wanted) c.in-Ok.ensures.authorized.0 (subst (λ (e : Expectation). ends it.login e) same c.end_with_code.ensures.end) in
    let end = inl (it.code, found, ended) in
    record {
      end = end;
      rules =
          subst (λ (e : Expectation). IfOk c.end_with_code.result (λ end. (now : Timestamp) × g.K.FnOnce.post c.args.clock tt now × Holds e (g.TR.TokenResponse.access_token end.token_response) now.nanosecond (token_of end.id_token))) same c.end_with_code.ensures.rules;
      other_provider = λ error is. (let none = found.at_provider in absurd (cc));
      other_place = λ error none is. (let nothing = found.at_place in absurd (cc));
      no_code = λ why none. cc;
      other_state = λ no. cc;
      given_back =
          openid_login-given_back g.TR.FromJson.meaning g.TE.FromJson.meaning g.TR.FromJson.reading g.TE.FromJson.reading g.C.SyncHttpClient.step g.TR.TokenResponse.access_token g.TR.HasIdToken.token_type_text g.TR.HasIdToken.id_token c.args.client.now login c.args.provider.now (g.K.FnOnce.post c.args.clock tt) c.args.called.now (form c.args.query.now) c.args.http_client.now c.end_with_code.new.http_client c.end_with_code.result end;
      memory = λ is state visible. subst HoldsTexts (sym coded) tt;
      no_state = λ none provider place. absurd (c.in-Ok.ensures.no_state none provider place);
      ready = c.end_with_code.ensures.ready;
    }

pub returns-in-Err : goal.returns-in-Err
returns-in-Err g c =
    let refused = c.in-Err.refused in
    let shown = c.in-Err.ensures.refusal.1 in
    record {
      end = inr (refused, refl, c.in-Err.ensures.refusal.0, shown, refl);
      rules = tt;
      other_provider = λ error is. ((refused, refl, shown_provider c.args.client.now c.args.self c.args.provider.now c.args.called.now (form c.args.query.now) error refused.error is shown), refl);
      other_place = λ error none is. ((refused, refl, shown_place c.args.client.now c.args.self c.args.provider.now c.args.called.now (form c.args.query.now) error refused.error none is shown), refl);
      no_code = λ why none. refl;
      other_state = λ no. refl;
      given_back = λ again is. (let same : again ≡ refused = cc in (ap (λ (r : RefusedOpenIdLogin). r.login) same ∙ c.in-Err.ensures.refusal.0, refl));
      memory = λ is. (let same : is.0 ≡ refused = cc (is.1) in c.in-Err.ensures.memory (ap (λ (r : RefusedOpenIdLogin). r.error) (sym same) ∙ is.2));
      no_state = λ none provider place. (refused, refl, c.in-Err.ensures.no_state none provider place);
      ready = search rules;
    }
