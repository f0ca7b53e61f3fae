use Rattle.std.proofs.Common.{◌≡◌, ◌∙◌, [], ap, map, length, rules}
use Rattle.std.specs.Prelude.{unwrap_or, option_map}
use Rattle.oauth2_form.specs.Length.{usize_len}
use Rattle.oauth2_wire.specs.Texts.{param_bytes, param_pair, redirect_of}
use Rattle.oauth2_requests.specs.Authorization.{Authorization}
use Rattle.oauth2_requests.proofs.QueryLenLaws.{usize_len-asked}
use Rattle.oauth2_requests.proofs.authorization_request.AuthorizationRequest.query_len.Goals as goal

pub returns : goal.returns
returns c =
    let inside = c.self.inside in
    let seen : Authorization = record {
      auth_url = inside.auth_url.now;
      client_id = inside.client_id.now;
      state = inside.state;
      response_type = param_bytes inside.response_type;
      pkce_challenge = inside.pkce_challenge;
      redirect_url = option_map redirect_of inside.redirect_url;
      scopes = inside.scopes.items;
      extra_params = map param_pair inside.extra_params.items;
    } in
    let query = unwrap_or seen.auth_url.url.query [] in
    let text : c.own_query-own.result.now ≡ query = c.own_query-own.ensures ∙ ap (λ u. unwrap_or u.query []) c.url.ensures in
    let start : length c.own_query-own.result.now ≡ usize_len query = search (rules, text) in
    let first = rw (← c.self.view_is) at c.required_len-len.ensures query start in
    let last = c.with_extra_params.ensures _ (c.with_scopes-len.ensures _ (c.with_redirect-len.ensures _ (c.with_challenge-len.ensures _ first))) in
    rw (← c.self.view_is) ((rw (c.deref.ensures.value, c.deref-2.ensures.value) at last) ∙ usize_len-asked query seen)
