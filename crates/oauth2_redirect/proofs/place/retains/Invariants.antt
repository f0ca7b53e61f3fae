use Rattle.std.proofs.Common.{◌≡◌}
use Rattle.oauth2_form.specs.Pairs.{form}
use Rattle.oauth2_redirect.specs.Place.{retains}
use Rattle.oauth2_redirect.proofs.Values.{pairs_left}
use Rattle.oauth2_redirect.proofs.place.retains.Given as goal

abbrev pub invariant-loop-name : goal.invariant-loop-name
invariant-loop-name l =
    retains (form l.fn.own) (form l.fn.query) ≡ retains (pairs_left l.name-iterator) (form l.fn.query)
