-- What a buffer of request parameters holds after a scope or an extra parameter was added.
use Rattle.std.specs.Prelude.{[], ◌∷◌, ◌++◌, Some}
use Rattle.oauth2_form.specs.Params.{Params, with_scope}
use Rattle.oauth2_client_refusals_tests.specs.declared.additions.Addition.{Addition}
use Rattle.oauth2_client_refusals_tests.specs.declared.additions.Addition.TheVariants.{Scope, Extra}

-- the parameters after one addition: a scope is added to the scopes, an extra parameter goes last
abbrev pub with_addition : Params → Addition → Params
with_addition params (Scope text) = record params {
  scope = Some (with_scope params.scope text.now);
}
with_addition params (Extra name value) = record params {
  extra_params = params.extra_params ++ (name.now, value.now) ∷ [];
}
