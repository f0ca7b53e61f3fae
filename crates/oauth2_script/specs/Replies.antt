-- The replies of a script.
use Rattle.std.specs.Prelude.{ℕ, List, Bool, true, false, Option, Some, None, Ok, codes}
use Rattle.std.specs.Result.{result_ok}
use Rattle.base64.specs.Engines.{standard}
use Rattle.base64.specs.GeneralPurpose.{decode_of}
use Rattle.serde_json.specs.Data.{Data}
use Rattle.serde_json.specs.Find.{get, as_bool}
use Rattle.oauth2_script_values.specs.Reading.{Reading, ◌>>=◌, map_read, bad, or_bad, inside, bad_member, to_member}
use Rattle.oauth2_script_values.specs.Part.{needed_part, present_part, an_object, field, status, text}
use Rattle.oauth2_script_values.specs.declared.script_cause.ScriptCause.TheVariants.{Missing, WrongType, BadText, Excluded}

-- an HTTP reply of the script: its status, the value of its Content-Type and the bytes of its body
pub record HttpReply : Type 0 where
  pub status : ℕ
  pub content_type : Option (List ℕ)
  pub body : List ℕ

-- what one call of the scripted client returns: a reply, or a failure
pub data Reply : Type 0 where
  replied : HttpReply → Reply
  failed : Reply

-- the bytes of a text in Base64, with padding (RFC 4648, 4); `None` for any other text
unfoldable pub base64_of : List ℕ → Option (List ℕ)
base64_of t = result_ok (decode_of standard t)

-- the value of the member `body_base64`
abbrev pub base64_bytes : Data → Reading (List ℕ)
base64_bytes d = text d >>= λ t. or_bad BadText (base64_of t)

-- the body by the members `body` and `body_base64`, of which just one is present
abbrev pub body_by : Option Data → Option Data → Reading (List ℕ)
body_by (Some plain) None = inside (to_member (codes "body")) (text plain)
body_by None (Some encoded) = inside (to_member (codes "body_base64")) (base64_bytes encoded)
body_by (Some plain) (Some encoded) = bad_member (codes "body_base64") Excluded
body_by None None = bad_member (codes "body") Missing

-- the body of an entry of `replies`: a text, or bytes in Base64
unfoldable pub body_of : Data → Reading (List ℕ)
body_of d = body_by (get (codes "body") d) (get (codes "body_base64") d)

-- reads `status`, `content_type` (optional) and the body from an entry of `replies`
unfoldable pub http_reply : Data → Reading HttpReply
http_reply d = do
  status ← needed_part status (codes "status") d
  content_type ← present_part field (codes "content_type") d
  body ← body_of d
  Ok (record { status = status; content_type = content_type; body = body })

-- the value of the member `fail`: `true` is a failed call, and all others make the script bad
abbrev pub failed_if : Option Bool → Reading Reply
failed_if (Some true) = Ok failed
failed_if (Some false) = bad WrongType
failed_if None = bad WrongType

-- if the member `fail` is present, the other members of the entry are ignored
abbrev pub reply_by : Option Data → Reading HttpReply → Reading Reply
reply_by None given = map_read replied given
reply_by (Some d) given = inside (to_member (codes "fail")) (failed_if (as_bool d))

-- reads one entry of `replies`
abbrev pub reply : Data → Reading Reply
reply d = an_object d >>= λ entry. reply_by (get (codes "fail") entry) (http_reply entry)
