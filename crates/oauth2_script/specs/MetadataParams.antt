-- The parameters of the command `metadata`.
use Rattle.std.specs.Prelude.{ℕ, List, Option, Some, None, Ok, unwrap_or, if◌then◌else◌, codes}
use Rattle.std.specs.Str.{bytes_eq}
use Rattle.serde_json.specs.Data.{Data}
use Rattle.oauth2_script_values.specs.Reading.{Reading, ◌>>=◌}
use Rattle.oauth2_script_values.specs.Part.{needed_part, present_part, text, word}
use Rattle.oauth2_script.specs.declared.metadata_params.WellKnown.{WellKnown}
use Rattle.oauth2_script.specs.declared.metadata_params.WellKnown.TheVariants.{OauthAuthorizationServer, OpenidConfiguration}

-- the issuer whose metadata the command gets, which well-known URI it uses, and the issuer that
-- the metadata has to name instead of that issuer, if one is given
pub record MetadataParams : Type 0 where
  pub issuer : List ℕ
  pub well_known : WellKnown
  pub expected_issuer : Option (List ℕ)

-- the name of a well-known URI (RFC 8414, 7.3; OpenID Connect Discovery 1.0, 4)
unfoldable pub well_known_of : List ℕ → Option WellKnown
well_known_of text =
    if bytes_eq text (codes "oauth-authorization-server") then Some OauthAuthorizationServer
    else (if bytes_eq text (codes "openid-configuration") then Some OpenidConfiguration else None)

-- the value of the member `well_known`: one of these two names, as a text
abbrev pub well_known : Data → Reading WellKnown
well_known d = word well_known_of d

-- reads `params`; `well_known` is `oauth-authorization-server` if absent
unfoldable pub metadata_params : Data → Reading MetadataParams
metadata_params d = do
  issuer ← needed_part text (codes "issuer") d
  well_known ← present_part well_known (codes "well_known") d
  expected_issuer ← present_part text (codes "expected_issuer") d
  Ok (record { issuer = issuer; well_known = unwrap_or well_known OauthAuthorizationServer; expected_issuer = expected_issuer })
