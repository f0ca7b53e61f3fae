use Rattle.std.proofs.Common.{◌≡◌}
use Rattle.std.specs.Prelude.{option_copied}
use Rattle.oauth2_script.specs.Views.{authorize_view}
use Rattle.oauth2_request_commands.proofs.Commands.{given_or-none}
use Rattle.oauth2_request_commands.proofs.Scopes.{all_added}
use Rattle.oauth2_request_commands.proofs.authorize.authorization_url.Goals as goal

pub returns-in-Ok : goal.returns-in-Ok
returns-in-Ok c =
    let p = authorize_view c.args.params in
    let h = c.in_ok-scoped.ensures in
    let all : h.1 ≡ p.scopes =
    all_added c.args.params.scopes h.0 h.1 h.2.0 h.2.1 h.3 in
    let nonce : option_copied c.as_deref.result ≡ p.nonce = c.as_deref.ensures.value in
    λ client url start. (
      rw (
        c.in_ok-asked.ensures,
        c.in_ok-bound.ensures,
        nonce,
        h.4,
        all,
        c.in_ok-typed.ensures,
        c.with_redirect-redirected.ensures,
        c.with_challenge-challenged.ensures,
        start,
        given_or-none p.challenge,
        c.as_slice.ensures.value,
      ) at c.in-Ok.ensures.ok,
      rw (
        c.in_ok-asked.ensures,
        c.in_ok-bound.ensures,
        h.4,
        c.in_ok-typed.ensures,
        c.with_redirect-redirected.ensures,
        c.with_challenge-challenged.ensures,
        start,
      ) at c.in-Ok.ensures.state,
    )
