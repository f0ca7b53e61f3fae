use Rattle.std.proofs.Common.{◌≡◌, List, ℕ, ◌+◌}
use Rattle.oauth2_shared_keeper.specs.Call.{Call, StoreLeads}
use Rattle.oauth2_shared_keeper.specs.private.Part.{Passes, keeps_next, keeps_again}
use Rattle.oauth2_shared_keeper.proofs.renewal.keep.Given as goal

abbrev pub invariant-loop-left : goal.invariant-loop-left
invariant-loop-left g l =
    record {
      ready : g.S.TokenStore.is_ready l.store;
      so_far : (calls : List (Call g.row.T.Denot))
          × StoreLeads g.S.TokenStore.loads g.S.TokenStore.replaces l.name l.fn.store calls l.store
          × ((used : ℕ) × (used + l.left ≡ l.repeats + 1)
          × ((n : ℕ) → Passes n (keeps_next l.version l.fn.new) calls (keeps_again l.version l.fn.new) 0 used));
    }

abbrev pub decreases-loop-left : goal.decreases-loop-left
decreases-loop-left g l = l.left
