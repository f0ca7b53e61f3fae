use Rattle.std.proofs.Common.{◌≡◌, drop}
use Rattle.oauth2_adapters.specs.Reply.{reply_values}
use Rattle.oauth2_world.specs.Adapted.{adapted_by_each}
use Rattle.oauth2_world.proofs.adapted.adapt_by_each.Given as goal

abbrev pub invariant-loop-adapter : goal.invariant-loop-adapter
invariant-loop-adapter l = adapted_by_each (drop l.adapter-index l.adapters) (reply_values l.adapted) ≡ adapted_by_each l.adapters (reply_values l.fn.reply)
