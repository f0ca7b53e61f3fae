use Rattle.std.proofs.lemmas.List.{map-id}
use Rattle.oauth2_script.specs.SharedKeeperParams.{shared_keeper_params}
use Rattle.oauth2_script.proofs.shared_keeper_params.SharedKeeperParamsPart.from_value.Goals as goal

pub returns-clause-read : goal.returns-clause-read
unfolding shared_keeper_params
returns-clause-read c = rw (c.in_ok-refresh_token.ensures.read, c.in_ok-steps.ensures) (simp map-id)
