use Rattle.std.proofs.Common.{◌≡◌, List, ◌+◌, length}
use Rattle.oauth2_shared_keeper.specs.Call.{ClientLeads}
use Rattle.oauth2_shared_keeper.specs.Keeper.{Round, TimedLeads, calls_in}
use Rattle.oauth2_shared_keeper.specs.private.Turns.{EachWaits, slept_calls}
use Rattle.oauth2_shared_keeper.proofs.shared_keeper.hold.Given as goal

abbrev pub invariant-loop-left : goal.invariant-loop-left
invariant-loop-left g l =
    record {
      store : g.S.TokenStore.is_ready l.store;
      client : g.C.RefreshClient.is_ready l.client;
      unsent : l.fn.client ≡ l.client;
      so_far : (rounds : List (Round g.row.T.Denot g.row.C-Error.Denot))
          × TimedLeads g.S.TokenStore.loads g.S.TokenStore.replaces g.S.TimedStore.reads g.S.TimedStore.sleeps g.S.TimedStore.draws
          l.name l.fn.store (slept_calls l.settings.wait rounds) l.store
          × ClientLeads g.C.RefreshClient.refreshes l.fn.client (calls_in rounds) l.client
          × EachWaits g.T.SharedToken.is_good l.settings rounds
          × (length rounds + l.left ≡ l.settings.rounds)
          × (l.left ≡ 0 → length rounds ≡ 0);
    }

abbrev pub decreases-loop-left : goal.decreases-loop-left
decreases-loop-left g l = l.left
