use Rattle.std.proofs.Common.{◌≡◌}
use Rattle.std.specs.List.{list_any}
use Rattle.form_urlencoded.specs.Form.{decode}
use Rattle.oauth2_form.specs.Pairs.{form}
use Rattle.oauth2_redirect.specs.Place.{is_pair}
use Rattle.oauth2_redirect.proofs.Values.{pairs_left}
use Rattle.oauth2_redirect.proofs.place.has_parameter.Given as goal

abbrev pub invariant-loop-called_name : goal.invariant-loop-called_name
invariant-loop-called_name l =
    list_any (is_pair (decode l.fn.name, decode l.fn.value)) (form l.fn.query)
    ≡ list_any (is_pair (decode l.fn.name, decode l.fn.value)) (pairs_left l.called_name-iterator)
