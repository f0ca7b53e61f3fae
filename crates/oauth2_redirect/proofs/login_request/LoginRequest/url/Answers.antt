use Rattle.std.proofs.Common.{◌≡◌, Some, ap, ◌∙◌, refl, string_bytes, sym, subst}
use Rattle.oauth2_types.specs.Pkce.{sha256_challenge}
use Rattle.oauth2_form.specs.Query.{query_form}
use Rattle.oauth2_redirect.specs.Redirect.{expectation_of}
use Rattle.oauth2_redirect.specs.Login.{login_view_of}
use Rattle.oauth2_redirect.specs.Start.{Starting, ShowsLogin}
use Rattle.oauth2_redirect.proofs.StartLaws.{shows}
use Rattle.oauth2_redirect.proofs.login_request.LoginRequest.url.Goals as goal

pub returns-in-Ok-clause-shows : goal.returns-in-Ok-clause-shows
returns-in-Ok-clause-shows c = λ avoid extra.
    let started = c.args.self in
    let inside = c.self.inside in
    let uri = c.in-Ok.redirect_uri in
    let is_started = c.self.view_is in
    let same_state = sym c.self.invariant.1 ∙ ap (λ (l : Starting). l.request.state) is_started in
    let same_verifier = ap (λ (l : Starting). l.verifier) is_started in
    let same_issuer = ap (λ (l : Starting). l.issuer) is_started in
    let same_client = sym c.self.invariant.3 ∙ ap (λ (l : Starting). l.request.client_id) is_started in
    let same_token_url = ap (λ (l : Starting). l.token_url) is_started in
    let challenge = subst (λ (l : Starting). l.request.pkce_challenge ≡ Some (sha256_challenge l.verifier)) is_started c.self.invariant.0 in
    let same : login_view_of inside.state inside.verifier uri (expectation_of inside.server.issuer) inside.server.client_id (string_bytes inside.server.token_url) ≡ login_view_of started.request.state started.verifier uri started.issuer started.request.client_id started.token_url
    = rw (same_state, same_verifier, same_issuer, same_client, same_token_url) refl in
    let is = c.new.ensures ∙ same in
    subst (λ l. ShowsLogin l (query_form c.in-Ok.url)) (sym is)
    (shows started.request.auth_url.url c.in-Ok.url started.request started.verifier uri started.issuer started.token_url c.in-Ok.ensures.url challenge c.in-Ok.ensures.redirect_uri avoid extra)
