-- The words of a script for the types of `oauth2_wire`.
use Rattle.std.specs.Prelude.{ℕ, List, Option, Some, None, if◌then◌else◌, codes}
use Rattle.std.specs.Str.{bytes_eq}
use Rattle.serde_json.specs.Data.{Data}
use Rattle.oauth2_wire.specs.declared.request.AuthType.{AuthType}
use Rattle.oauth2_wire.specs.declared.request.AuthType.TheVariants.{BasicAuth, RequestBody}
use Rattle.oauth2_wire.specs.declared.content_type.ReplyRule.{ReplyRule}
use Rattle.oauth2_wire.specs.declared.content_type.ReplyRule.TheVariants.{Prefix, MediaType}
use Rattle.oauth2_script_values.specs.Reading.{Reading}
use Rattle.oauth2_script_values.specs.Part.{word}

-- where the client sends its secret (RFC 6749, 2.3.1): `basic` or `body`; `None` for other texts
unfoldable pub auth_type_of : List ℕ → Option AuthType
auth_type_of text =
    if bytes_eq text (codes "basic") then Some BasicAuth
    else (if bytes_eq text (codes "body") then Some RequestBody else None)

-- the value of the member `auth`: the text `basic` or `body`
abbrev pub auth_type_part : Data → Reading AuthType
auth_type_part d = word auth_type_of d

-- which Content-Type a success may have: `prefix` or `media_type`; `None` for other texts
unfoldable pub reply_rule_of : List ℕ → Option ReplyRule
reply_rule_of text =
    if bytes_eq text (codes "prefix") then Some Prefix
    else (if bytes_eq text (codes "media_type") then Some MediaType else None)

-- the value of the member `reply_rule`: the text `prefix` or `media_type`
abbrev pub reply_rule_part : Data → Reading ReplyRule
reply_rule_part d = word reply_rule_of d
