-- The scopes and the extra parameters of a keeper's requests.
use Rattle.std.specs.Prelude.{ℕ, List, ◌++◌, Option, Some, None}
use Rattle.oauth2_form.specs.Pairs.{Pair}
use Rattle.oauth2_form.specs.Params.{with_scope}
use Rattle.oauth2_requests.specs.Base.{Base}

-- the scopes of a request with more scopes, if there are any
abbrev pub with_more : Option (List ℕ) → Option (List ℕ) → Option (List ℕ)
with_more scope None = scope
with_more scope (Some more) = Some (with_scope scope more)

-- a request with more scopes and parameters
abbrev pub with_params : Base → Option (List ℕ) → List Pair → Base
with_params base scope params = record base {
  scope = with_more base.scope scope;
  extra_params = base.extra_params ++ params;
}
