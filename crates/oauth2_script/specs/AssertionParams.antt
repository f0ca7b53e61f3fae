-- The parameters of the command `assertion`.
use Rattle.std.specs.Prelude.{ℕ, List, Option, Some, None, Ok, if◌then◌else◌, codes}
use Rattle.std.specs.Str.{bytes_eq}
use Rattle.serde_json.specs.Data.{Data}
use Rattle.oauth2_script_values.specs.Reading.{Reading, ◌>>=◌}
use Rattle.oauth2_script_values.specs.Part.{list_part, needed_part, text, word}
use Rattle.oauth2_script.specs.Sent.{sent_params}
use Rattle.oauth2_script.specs.declared.assertion_params.AssertionKind.{AssertionKind}
use Rattle.oauth2_script.specs.declared.assertion_params.AssertionKind.TheVariants.{Jwt, Saml2}

-- the kind of the assertion, its text, the scopes and the further parameters of a request by an
-- assertion of another party (RFC 7521, 4.1); a SAML assertion is given as XML
pub record AssertionParams : Type 0 where
  pub kind : AssertionKind
  pub assertion : List ℕ
  pub scopes : List (List ℕ)
  pub extra_params : List (List ℕ × List ℕ)

-- a JWT (RFC 7523, 2.1) or a SAML 2.0 assertion (RFC 7522, 2.1): `jwt` or `saml2`; `None` for other
-- texts
unfoldable pub assertion_kind_of : List ℕ → Option AssertionKind
assertion_kind_of text =
    if bytes_eq text (codes "jwt") then Some Jwt
    else (if bytes_eq text (codes "saml2") then Some Saml2 else None)

-- the value of the member `kind`: the text `jwt` or `saml2`
abbrev pub assertion_kind : Data → Reading AssertionKind
assertion_kind d = word assertion_kind_of d

-- reads `params`; `kind` and `assertion` have to be present
unfoldable pub assertion_params : Data → Reading AssertionParams
assertion_params d = do
  kind ← needed_part assertion_kind (codes "kind") d
  assertion ← needed_part text (codes "assertion") d
  scopes ← list_part text (codes "scopes") d
  extra_params ← sent_params d
  Ok (record { kind = kind; assertion = assertion; scopes = scopes; extra_params = extra_params })
