-- The replies of a script as the adapters of its client change them.
use Rattle.std.specs.Prelude.{ℕ, List, [], ◌∷◌, map, Option, Some, None, option_map, codes}
use Rattle.http.specs.declared.version.TheConstants.Version.{HTTP_11}
use Rattle.http_header.specs.FieldValue.{FieldValue, plain_value}
use Rattle.http_header.specs.HeaderMap.{Entries, get}
use Rattle.oauth2_adapters.specs.CommasInScopes.{spaced_scope}
use Rattle.oauth2_adapters.specs.ErrorsAtStatus200.{error_at_400}
use Rattle.oauth2_adapters.specs.FormBodies.{form_as_json}
use Rattle.oauth2_adapters.specs.NumbersAsTexts.{number_under}
use Rattle.oauth2_adapters.specs.OtherMediaTypes.{as_json}
use Rattle.oauth2_adapters.specs.Reply as adapters
use Rattle.oauth2_adapters.specs.Rewriting.{with_changes}
use Rattle.oauth2_script.specs.Replies.{HttpReply, Reply, replied, failed}
use Rattle.oauth2_script.specs.declared.adapter.Adapter.{Adapter}
use Rattle.oauth2_script.specs.declared.adapter.Adapter.TheVariants.{CommasInScopes, ErrorsAtStatus200, FormBodies, NumbersAsTexts, OtherMediaTypes}

-- the headers of a reply: its Content-Type, if it has one
abbrev pub headers_of : Option (List ℕ) → Entries FieldValue
headers_of None = []
headers_of (Some value) = (codes "content-type", plain_value value ∷ []) ∷ []

-- a reply of the script as the HTTP client receives it
abbrev pub received_reply : HttpReply → adapters.Reply
received_reply r = record {
  status = r.status;
  version = HTTP_11;
  headers = headers_of r.content_type;
  body = r.body;
}

-- a reply with what a client reads of it: its status, its first Content-Type and its body
abbrev pub read_parts : adapters.Reply → HttpReply
read_parts r = record {
  status = r.status;
  content_type = option_map (λ value. value.bytes) (get r.headers (codes "content-type"));
  body = r.body;
}

-- what the adapter of each name does to a reply
abbrev pub adapted_by : Adapter → adapters.Reply → adapters.Reply
adapted_by CommasInScopes = with_changes spaced_scope
adapted_by ErrorsAtStatus200 = error_at_400
adapted_by FormBodies = form_as_json
adapted_by NumbersAsTexts = with_changes (number_under (codes "expires_in" ∷ codes "interval" ∷ []))
adapted_by OtherMediaTypes = as_json (codes "text/javascript" ∷ codes "text/plain" ∷ [])

-- what these adapters do to a reply; the first one sees it as it came
abbrev pub adapted_by_each : List Adapter → adapters.Reply → adapters.Reply
adapted_by_each [] reply = reply
adapted_by_each (adapter ∷ more) reply = adapted_by_each more (adapted_by adapter reply)

-- a reply of the script, changed by these adapters; a failed call stays one
abbrev pub adapted_reply : List Adapter → Reply → Reply
adapted_reply list (replied reply) =
    replied (read_parts (adapted_by_each list (received_reply reply)))
adapted_reply list failed = failed

-- the replies of a script, changed by the adapters of its client; without adapters they stay
abbrev pub adapted_replies : List Adapter → List Reply → List Reply
adapted_replies [] replies = replies
adapted_replies (adapter ∷ more) replies = map (adapted_reply (adapter ∷ more)) replies
