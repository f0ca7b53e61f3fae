use Rattle.std.proofs.lemmas.Iterator.Adapters.{option_map_id}
use Rattle.std.proofs.lemmas.List.{map-id}
use Rattle.oauth2_script.specs.KeeperParams.{keeper_params}
use Rattle.oauth2_script.proofs.keeper_params.KeeperParamsPart.from_value.Goals as goal

pub returns-clause-read : goal.returns-clause-read
unfolding keeper_params
returns-clause-read c =
    rw (c.in_ok-margin.ensures.read, c.in_ok-life.ensures.read, c.in_ok-refresh.ensures.read, c.in_ok-scopes.ensures, c.in_ok-extra_params.ensures, c.in_ok-retry_after.ensures.read, c.in_ok-token_types.ensures.read)
    (simp (option_map_id, map-id))
