use Rattle.std.proofs.Common.{◌≡◌, ◌∙◌, ap, map, string_bytes, rules}
use Rattle.http_uri.specs.Uri.{uri_text}
use Rattle.oauth2_wire.specs.Request.{view_of}
use Rattle.oauth2_wire.specs.ServerView.{pair_texts}
use Rattle.oauth2_world.specs.Quotation.{quotation}
use Rattle.oauth2_results.specs.Decoded.{decoded_of}
use Rattle.oauth2_results.specs.RequestJson.{headers_json, lossy_json, basic_json, pairs_json}
use Rattle.oauth2_results.proofs.request_json.request_json.Goals as goal

pub returns : goal.returns
returns c =
    let v = view_of c.args.request.now in
    let method : string_bytes c.in_ok-method.method ≡ quotation v.method = search rules in
    let url : string_bytes c.in_ok-url.url ≡ quotation (uri_text v.target) = search rules in
    let headers : string_bytes c.in_ok-headers.headers ≡ headers_json v.headers = search rules in
    let body : string_bytes c.in_ok-body.body ≡ lossy_json v.body = search rules in
    let basic : string_bytes c.in_ok-basic.basic ≡ basic_json (decoded_of v).basic = c.in_ok-basic.ensures ∙ ap (λ d. basic_json d.basic) c.in_ok-decoded.ensures in
    let pairs : string_bytes c.in_ok-pairs.pairs ≡ pairs_json (decoded_of v).pairs =
    c.in_ok-pairs.ensures ∙ ap (λ ps. pairs_json (map pair_texts ps)) c.as_slice.ensures.value ∙ ap (λ d. pairs_json d.pairs) c.in_ok-decoded.ensures in
    rw (c.as_str-3.ensures.value, method, c.as_str-4.ensures.value, url, c.as_str-5.ensures.value, headers, c.as_str-6.ensures.value, body, c.as_str-7.ensures.value, basic, c.as_str-8.ensures.value, pairs) at c.in_ok-json.ensures
