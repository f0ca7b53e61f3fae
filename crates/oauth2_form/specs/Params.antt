-- What contracts see of a `ParamBuffer`.
use Rattle.std.specs.Prelude.{ℕ, List, [], ◌++◌, codes, fold, Option, None, Some}
use Rattle.oauth2_form.specs.Pairs.{Pair}

-- the scopes as one text, if any scope was added, and the extra parameters
pub record Params : Type 0 where
  pub scope : Option (List ℕ)
  pub extra_params : List Pair

-- neither a scope nor a parameter
abbrev pub no_params : Params
no_params = record { scope = None; extra_params = [] }

-- the text of the scopes with one more scope, after a space if there were any (RFC 6749, 3.3)
abbrev pub with_scope : Option (List ℕ) → List ℕ → List ℕ
with_scope None scope = scope
with_scope (Some text) scope = text ++ codes " " ++ scope

-- the text of the scopes with more scopes, in order
abbrev pub with_scopes : Option (List ℕ) → List (List ℕ) → Option (List ℕ)
with_scopes text scopes = fold (λ t scope. Some (with_scope t scope)) text scopes
