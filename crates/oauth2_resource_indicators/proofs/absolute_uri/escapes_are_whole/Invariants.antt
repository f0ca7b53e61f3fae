use Rattle.std.proofs.Common.{◌≡◌, length}
use Rattle.oauth2_resource_indicators.specs.AbsoluteUri.{escapes_are_whole}
use Rattle.oauth2_resource_indicators.proofs.absolute_uri.escapes_are_whole.Given as goal

abbrev pub invariant-loop-rest : goal.invariant-loop-rest
invariant-loop-rest l = escapes_are_whole l.rest ≡ escapes_are_whole l.text

abbrev pub decreases-loop-rest : goal.decreases-loop-rest
decreases-loop-rest l = length l.rest
