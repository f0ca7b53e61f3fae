use Rattle.std.proofs.lemmas.List.{map-id}
use Rattle.oauth2_script.specs.RefreshParams.{refresh_params}
use Rattle.oauth2_script.proofs.refresh_params.RefreshParamsPart.from_value.Goals as goal

pub returns-clause-read : goal.returns-clause-read
unfolding refresh_params
returns-clause-read c = rw (c.in_ok-refresh_token.ensures.read, c.in_ok-scopes.ensures, c.in_ok-extra_params.ensures) (simp map-id)
