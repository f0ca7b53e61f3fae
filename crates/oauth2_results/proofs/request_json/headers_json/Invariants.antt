use Rattle.std.proofs.Common.{◌≡◌, ◌++◌, map, string_bytes}
use Rattle.http_header.specs.HeaderMap.{pairs}
use Rattle.oauth2_results.specs.RequestJson.{header_json}
use Rattle.oauth2_results.proofs.request_json.headers_json.Given as goal

abbrev pub invariant-loop-name : goal.invariant-loop-name
invariant-loop-name l = map string_bytes l.items.items ++ map header_json l.name-iterator ≡ map header_json (pairs l.headers)
