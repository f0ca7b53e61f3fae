use Rattle.std.proofs.Common.{◌≡◌, ◌++◌, filter}
use Rattle.oauth2_form.specs.Pairs.{form}
use Rattle.oauth2_wire.specs.ByName.{bears}
use Rattle.oauth2_redirect.specs.Query.{sent_pairs}
use Rattle.oauth2_redirect.proofs.Values.{kept, left}
use Rattle.oauth2_redirect.proofs.query.sole_encoded.Given as goal

abbrev pub invariant-loop-bearer : goal.invariant-loop-bearer
invariant-loop-bearer l =
    filter (bears l.fn.name) (sent_pairs (form l.fn.query)) ≡ kept l.fn.name l.found ++ left l.fn.name l.bearer-iterator
