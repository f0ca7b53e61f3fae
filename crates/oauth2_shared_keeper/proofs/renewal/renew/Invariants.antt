use Rattle.std.proofs.Common.{◌≡◌, List, ℕ, ◌+◌}
use Rattle.oauth2_shared_keeper.specs.Call.{Call, StoreLeads}
use Rattle.oauth2_shared_keeper.specs.Renewal.{first_turn}
use Rattle.oauth2_shared_keeper.specs.private.Part.{Passes}
use Rattle.oauth2_shared_keeper.proofs.renewal.renew.Given as goal

abbrev pub invariant-loop-left : goal.invariant-loop-left
invariant-loop-left g l =
    record {
      ready : g.S.TokenStore.is_ready l.store;
      client : l.client ≡ l.fn.client;
      so_far : (calls : List (Call g.row.T.Denot))
          × StoreLeads g.S.TokenStore.loads g.S.TokenStore.replaces l.name l.fn.store calls l.store
          × ((used : ℕ) × (used + l.left ≡ l.limits.loads) × Passes l.renewal first_turn calls first_turn used 0);
    }

abbrev pub decreases-loop-left : goal.decreases-loop-left
decreases-loop-left g l = l.left
