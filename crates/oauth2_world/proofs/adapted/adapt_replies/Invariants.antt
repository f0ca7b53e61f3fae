use Rattle.std.proofs.Common.{◌≡◌, map}
use Rattle.oauth2_script.specs.Views.{stored_reply}
use Rattle.oauth2_world.specs.Adapted.{adapted_reply}
use Rattle.oauth2_world.proofs.adapted.adapt_replies.Given as goal

abbrev pub invariant-loop-reply : goal.invariant-loop-reply
invariant-loop-reply l = map stored_reply l.adapted.items ≡ map (adapted_reply l.adapters) (map stored_reply l.yielded)
