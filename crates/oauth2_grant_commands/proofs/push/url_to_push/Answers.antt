use Rattle.std.proofs.Common.{◌≡◌, ◌++◌, map, ap, ◌∙◌}
use Rattle.std.proofs.lemmas.List.{map-append}
use Rattle.oauth2.specs.NewRequest.{new_authorization}
use Rattle.oauth2_form.specs.Query.{ExtendsQuery}
use Rattle.oauth2_requests.specs.Authorization.{query_pairs}
use Rattle.oauth2_wire.specs.ServerView.{pair_texts}
use Rattle.oauth2_request_commands.specs.Authorize.{authorization}
use Rattle.oauth2_request_commands.specs.Client.{settings_of}
use Rattle.oauth2_script.specs.Views.{client_view, push_view}
use Rattle.oauth2_grant_commands.proofs.Pushes.{more_pairs}
use Rattle.oauth2_grant_commands.proofs.push.url_to_push.Goals as goal

pub returns : goal.returns
returns c =
    let client = settings_of (client_view c.args.client.now) in
    let p = (push_view c.args.params).authorize in
    let more = (push_view c.args.params).asserted in
    let url = c.args.auth_url.now in
    let start : c.new-request.result ≡ new_authorization client url p.state =
    rw (c.in_ok-state.ensures, c.as_ref-redirect.ensures.value) at c.new-request.ensures in
    let joined : map pair_texts c.append.new.self.items ≡ p.extra_params ++ more =
    ap (map pair_texts) c.in_ok-append.ensures.items ∙ map-append pair_texts c.args.params.authorize.extra_params.items c.args.params.asserted.items in
    let made = c.in_ok-made.ensures client url start in
    let whole : ExtendsQuery url.url c.in_ok-made.made.0 (query_pairs (authorization client (record p { extra_params = p.extra_params ++ more }) url)) =
    rw joined at made.0 in
    rw (← more_pairs client p more url) whole
