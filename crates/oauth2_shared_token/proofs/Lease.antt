-- Clocks that are apart by at most so much.
use Rattle.std.proofs.Common.{arith}
use Rattle.std.proofs.lemmas.Int.{ints}
use Rattle.oauth2_shared_token.specs.Lease.{NoLeaseEndsEarly}

pub no_lease_ends_early : NoLeaseEndsEarly
no_lease_ends_early until apart now own near overdue = omega (arith, ints, near, overdue)
