use Rattle.std.proofs.Common.{◌+◌, [], ◌∷◌, Some, None, Ok, Err, refl}
use Rattle.oauth2_shared_keeper.specs.Call.{Refresh}
use Rattle.oauth2_shared_keeper.proofs.Runs.{client-unsent}
use Rattle.oauth2_shared_keeper.proofs.Parts.{given, unanswered}
use Rattle.oauth2_shared_keeper.proofs.renewal.send.Goals as goal

pub returns-in-Ok-clause-renewal : goal.returns-in-Ok-clause-renewal
returns-in-Ok-clause-renewal g c =
    let k = c.keep.ensures.renewal in (
      Refresh c.args.token (Some c.in-Ok.new) ∷ k.0,
      k.1,
      (Ok c.in-Ok.new, c.refresh.new.self, c.in-Ok.ensures.refreshes, refl, client-unsent g.C.RefreshClient.refreshes c.refresh.new.self k.0 k.2),
      λ n loads. given n c.args.version c.args.token c.in-Ok.new k.0 loads (c.args.repeats + 1) c.keep.result (k.3 n loads),
    )

pub returns-in-Err-clause-renewal : goal.returns-in-Err-clause-renewal
returns-in-Err-clause-renewal g c = (
  Refresh c.args.token None ∷ [],
  refl,
  (Err c.in-Err.error, c.refresh.new.self, c.in-Err.ensures.refreshes, refl, refl),
  λ n loads. unanswered n c.args.version c.args.token c.in-Err.error loads (c.args.repeats + 1),
)
