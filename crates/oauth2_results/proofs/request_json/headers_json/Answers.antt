use Rattle.std.proofs.Common.{◌≡◌, ◌∙◌, map, string_bytes, ap, rules}
use Rattle.http_header.specs.HeaderMap.{pairs}
use Rattle.oauth2_results.specs.Json.{list_text}
use Rattle.oauth2_results.specs.RequestJson.{header_json}
use Rattle.oauth2_results.proofs.request_json.headers_json.Goals as goal

pub returns : goal.returns
returns c =
    let all : map string_bytes c.loop-name.items.items ≡ map header_json (pairs c.args.headers.now) = search rules in
    c.in_ok-json.ensures ∙ ap (λ items. list_text (map string_bytes items)) c.as_slice.ensures.value ∙ ap list_text all
