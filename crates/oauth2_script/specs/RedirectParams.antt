-- The parameters of the command `redirect`.
use Rattle.std.specs.Prelude.{ℕ, List, Option, Some, None, Ok, codes}
use Rattle.serde_json.specs.Data.{Data}
use Rattle.oauth2_script.specs.KeptLogin.{KeptLogin, kept_login}
use Rattle.oauth2_urls.specs.Addressed.{Addressed}
use Rattle.oauth2_script_values.specs.Reading.{Reading, ◌>>=◌, bad_member}
use Rattle.oauth2_script_values.specs.Part.{needed_part, present_part, address, text}
use Rattle.oauth2_script_values.specs.declared.script_cause.ScriptCause.TheVariants.{Excluded}

-- the issuer that is expected: one that the redirect has to name, one that it may leave out, or
-- none (RFC 9207, 2.4)
pub data Issuer : Type 0 where
  required : List ℕ → Issuer
  compared : List ℕ → Issuer
  unknown : Issuer

-- the members `issuer` and `issuer_compared`; a script with both is bad
abbrev pub issuer_of : Option (List ℕ) → Option (List ℕ) → Reading Issuer
issuer_of None None = Ok unknown
issuer_of (Some text) None = Ok (required text)
issuer_of None (Some text) = Ok (compared text)
issuer_of (Some text) (Some other) = bad_member (codes "issuer_compared") Excluded

-- the state that was sent, the URL that the user was sent back to, what was kept of the login, if it
-- is to be compared, and the issuer that is expected
pub record RedirectParams : Type 0 where
  pub state : List ℕ
  pub redirect : Addressed
  pub login : Option KeptLogin
  pub issuer : Issuer

-- reads `params`; `state` and `redirect` have to be present
unfoldable pub redirect_params : Data → Reading RedirectParams
redirect_params d = do
  state ← needed_part text (codes "state") d
  redirect ← needed_part address (codes "redirect") d
  login ← present_part kept_login (codes "login") d
  told ← present_part text (codes "issuer") d
  told_or_left_out ← present_part text (codes "issuer_compared") d
  issuer ← issuer_of told told_or_left_out
  Ok (record { state = state; redirect = redirect; login = login; issuer = issuer })
