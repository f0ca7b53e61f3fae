-- A reply as JSON.
use Rattle.std.specs.Prelude.{ℕ, List, [], ◌∷◌, Option, Some, None, if◌then◌else◌, codes}
use Rattle.std.specs.Fmt.{decimal}
use Rattle.std.specs.Str.{is_utf8}
use Rattle.serde_json.specs.Data.{Data}
use Rattle.serde_json.specs.Read.{read}
use Rattle.oauth2_wire.specs.Reply.{ReplyView}
use Rattle.oauth2_results.specs.Json.{object_text}
use Rattle.oauth2_results.specs.RequestJson.{lossy_json}

-- a text as it came if it reads to a value, else `null`
abbrev pub text_or_null : Option Data → List ℕ → List ℕ
text_or_null None text = codes "null"
text_or_null (Some value) text = text

-- a text that is one whole JSON value as it came, nested at most 127 deep; else `null`
abbrev pub text_json : List ℕ → List ℕ
text_json text = text_or_null (read text) text

-- a body that is UTF-8 and one whole JSON value as it came, byte for byte; else `null`
abbrev pub body_json : List ℕ → List ℕ
body_json body = if is_utf8 body then text_json body else codes "null"

-- the Content-Type as a string, or `null`
abbrev pub content_type_json : Option (List ℕ) → List ℕ
content_type_json None = codes "null"
content_type_json (Some value) = lossy_json value

-- a reply that came
abbrev pub one_reply_json : ReplyView → List ℕ
one_reply_json r =
    object_text ((codes "status", decimal r.status)
    ∷ (codes "content_type", content_type_json r.content_type)
    ∷ (codes "json", body_json r.body) ∷ [])

-- a reply, or `null` for a failed call
abbrev pub reply_json : Option ReplyView → List ℕ
reply_json None = codes "null"
reply_json (Some reply) = one_reply_json reply
