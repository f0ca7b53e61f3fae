use Rattle.std.proofs.Common.{map, take}
use Rattle.oauth2_wire.specs.Texts.{param_pair}
use Rattle.oauth2_form.specs.ExtendsForm.{ExtendsForm}
use Rattle.oauth2_requests.proofs.authorization_request.push_extra_params.Given as goal

abbrev pub invariant-loop-name : goal.invariant-loop-name
invariant-loop-name l = ExtendsForm l.initial.form.items l.form.items (map param_pair (take l.name-index l.extra_params))
