use Rattle.std.proofs.Common.{◌≡◌, List, ℕ, ◌+◌}
use Rattle.oauth2_shared_token.specs.declared.renewal.Content.TheVariants as content
use Rattle.oauth2_shared_keeper.specs.Call.{Call, StoreLeads}
use Rattle.oauth2_shared_keeper.specs.private.Part.{Passes, marks_next, looks_again}
use Rattle.oauth2_shared_keeper.proofs.marking.mark.Given as goal

abbrev pub invariant-loop-left : goal.invariant-loop-left
invariant-loop-left g l =
    record {
      ready : g.S.TokenStore.is_ready l.store;
      content : l.content ≡ content.Marked l.fn.token l.renewal;
      so_far : (calls : List (Call g.row.T.Denot))
          × StoreLeads g.S.TokenStore.loads g.S.TokenStore.replaces l.name l.fn.store calls l.store
          × ((used : ℕ) × (used + l.left ≡ l.loads) × Passes l.renewal (marks_next l.version l.fn.token) calls (looks_again l.version l.fn.token) used 1);
    }

abbrev pub decreases-loop-left : goal.decreases-loop-left
decreases-loop-left g l = l.left
