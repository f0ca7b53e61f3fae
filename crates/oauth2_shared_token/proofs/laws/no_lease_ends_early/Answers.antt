use Rattle.oauth2_shared_token.proofs.Lease.{no_lease_ends_early}
use Rattle.oauth2_shared_token.proofs.laws.no_lease_ends_early.Goals as goal

pub returns : goal.returns
returns c = no_lease_ends_early
