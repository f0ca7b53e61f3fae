-- What contracts see of texts and redirect URLs that are borrowed or owned.
use Rattle.std.specs.Prelude.{ℕ, List, string_bytes}
use Rattle.oauth2_urls.specs.Addressed.{Addressed}
use Rattle.oauth2_wire.specs.declared.texts.ParamText.{ParamText}
use Rattle.oauth2_wire.specs.declared.texts.ParamText.TheVariants as param
use Rattle.oauth2_wire.specs.declared.texts.RedirectRef.{RedirectRef}
use Rattle.oauth2_wire.specs.declared.texts.RedirectRef.TheVariants as redirect
use Rattle.oauth2_form.specs.Pairs.{Pair}

-- the text, borrowed or owned
abbrev pub param_bytes : ParamText → List ℕ
param_bytes (param.Borrowed text) = text.now
param_bytes (param.Owned text) = string_bytes text

-- a name and a value
abbrev pub param_pair : ParamText × ParamText → Pair
param_pair p = (param_bytes p.0, param_bytes p.1)

-- the redirect URL, borrowed or owned
abbrev pub redirect_of : RedirectRef → Addressed
redirect_of (redirect.Borrowed url) = url.now
redirect_of (redirect.Owned url) = url

-- the text from which the URL was parsed, unchanged
abbrev pub given_text : Addressed → List ℕ
given_text url = url.text
