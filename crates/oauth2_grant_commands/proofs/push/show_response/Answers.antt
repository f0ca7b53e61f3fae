use Rattle.std.proofs.Common.{◌≡◌, [], ◌∷◌, ◌++◌, refl}
use Rattle.std.proofs.lemmas.Result.{IfOk-weaker}
use Rattle.serde_json.specs.Data.{object, no_members}
use Rattle.url.specs.Parts.{serialize}
use Rattle.url.specs.Setters.{append_query_pairs}
use Rattle.oauth2_json.specs.Puts.{put_all}
use Rattle.oauth2_pushed_requests.specs.Pushed.{reference_pairs}
use Rattle.oauth2_pushed_requests.specs.Response.{pushed_rows}
use Rattle.oauth2_request_commands.specs.Out.{success_output}
use Rattle.oauth2_world.specs.Events.{sent_to}
use Rattle.oauth2_grant_commands.specs.Push.{pushed_json}
use Rattle.oauth2_grant_commands.proofs.Pushes.{after_told}
use Rattle.oauth2_grant_commands.proofs.push.show_response.Goals as goal

pub returns-in_ok-push-in-Ok : goal.returns-in_ok-push-in-Ok
unfolding pushed_json
returns-in_ok-push-in-Ok c =
    let r = c.args.response.now in
    let url = sent_to (serialize (append_query_pairs c.args.auth_url.now.url (reference_pairs c.args.client_id.now r.request_uri))) in
    let sent : c.push.new.self ≡ c.args.events.now ++ url ∷ [] =
    rw (c.in_ok-text-in-Ok.ensures.ok, c.as_str.ensures.value, c.in-Ok.ensures.ok.text) at c.in_ok-push-in-Ok.ensures in
    IfOk-weaker c.show_answer.result _ _
    (λ status shows.
    after_told c.args.events.now c.push.new.self c.show_answer.new.events (url ∷ []) status
    (success_output (pushed_json r)) sent (shows (object (put_all (pushed_rows r) no_members)) refl))
    c.show_answer.ensures
