use Rattle.std.proofs.Common.{◌≡◌, map}
use Rattle.form_urlencoded.specs.Form.{decode}
use Rattle.form_urlencoded.specs.Parse.{raw_pairs_left}
use Rattle.oauth2_form.specs.Pairs.{form}
use Rattle.oauth2_client_assertions.specs.Requests.{has_credential}
use Rattle.oauth2_client_assertions.proofs.form_names.has_credential.Given as goal

abbrev pub invariant-loop-name : goal.invariant-loop-name
invariant-loop-name l =
    has_credential (map (λ (name, value). (decode name, decode value)) (raw_pairs_left l.name-iterator)) ≡ has_credential (form l.fn.body)
