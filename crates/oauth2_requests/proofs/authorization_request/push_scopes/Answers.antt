use Rattle.std.proofs.Common.{◌≡◌, ◌∙◌, ap}
use Rattle.std.proofs.lemmas.List.{map-id}
use Rattle.oauth2_json.specs.Words.{joined_words}
use Rattle.oauth2_requests.proofs.authorization_request.push_scopes.Goals as goal

pub returns : goal.returns
returns c =
    let text : c.as_str.result.now ≡ joined_words c.args.scopes.now = c.as_str.ensures.value ∙ c.in_ok-scope.ensures ∙ ap joined_words (map-id c.args.scopes.now) in
    rw (← text) c.in_ok-push_scope.ensures
