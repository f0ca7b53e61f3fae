-- The parameters of the command `revoke`.
use Rattle.std.specs.Prelude.{ℕ, List, Option, Some, None, Ok, unwrap_or, if◌then◌else◌, codes}
use Rattle.std.specs.Str.{bytes_eq}
use Rattle.serde_json.specs.Data.{Data}
use Rattle.oauth2_script_values.specs.Reading.{Reading, ◌>>=◌}
use Rattle.oauth2_script_values.specs.Part.{needed_part, present_part, text, word}
use Rattle.oauth2_script.specs.Sent.{asserted_extra}
use Rattle.oauth2_script.specs.declared.revoke_params.TokenKind.{TokenKind}
use Rattle.oauth2_script.specs.declared.revoke_params.TokenKind.TheVariants.{Access, Refresh}

-- the token that is revoked, its kind, and the further parameters of the request (RFC 7009, 2.1)
pub record RevokeParams : Type 0 where
  pub token : List ℕ
  pub kind : TokenKind
  pub extra_params : List (List ℕ × List ℕ)

-- the kind of the token that is revoked: `access` or `refresh`; `None` for other texts
unfoldable pub kind_of : List ℕ → Option TokenKind
kind_of text =
    if bytes_eq text (codes "access") then Some Access
    else (if bytes_eq text (codes "refresh") then Some Refresh else None)

-- the value of the member `kind`: the text `access` or `refresh`
abbrev pub kind : Data → Reading TokenKind
kind d = word kind_of d

-- reads `params`; `kind` is `access` if absent
unfoldable pub revoke_params : Data → Reading RevokeParams
revoke_params d = do
  token ← needed_part text (codes "token") d
  kind ← present_part kind (codes "kind") d
  extra_params ← asserted_extra d
  Ok (record { token = token; kind = unwrap_or kind Access; extra_params = extra_params })
