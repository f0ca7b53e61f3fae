use Rattle.std.proofs.Common.{◌≡◌, ◌∙◌, ap, string_bytes, option_map, rules}
use Rattle.std.specs.Fmt.{decimal}
use Rattle.oauth2_results.specs.ReplyJson.{content_type_json, body_json}
use Rattle.oauth2_results.proofs.reply_json.one_reply_json.Goals as goal

pub returns : goal.returns
returns c =
    let r = c.args.reply.now in
    let status : string_bytes c.in_ok-status.status ≡ decimal r.status = search rules in
    let content_type : string_bytes c.in_ok-content_type.content_type ≡ content_type_json (option_map (λ v. v.bytes) r.content_type) = c.in_ok-content_type.ensures in
    let body : string_bytes c.in_ok-body.body ≡ body_json r.body.items = c.in_ok-body.ensures ∙ ap body_json c.as_slice.ensures.value in
    rw (c.as_str.ensures.value, status, c.as_str-2.ensures.value, content_type, c.as_str-3.ensures.value, body) at c.in_ok-json.ensures
