use Rattle.std.proofs.Common.{◌≡◌, ◌++◌, map}
use Rattle.form_urlencoded.specs.Form.{decode}
use Rattle.form_urlencoded.specs.Parse.{raw_pairs_left}
use Rattle.oauth2_form.specs.Pairs.{form}
use Rattle.oauth2_pushed_requests.specs.private.Read.{pair_bytes}
use Rattle.oauth2_pushed_requests.proofs.query_pairs.read_query.Given as goal

abbrev pub invariant-loop-name : goal.invariant-loop-name
invariant-loop-name l =
    map pair_bytes l.pairs.items ++ map (λ (name, value). (decode name, decode value)) (raw_pairs_left l.name-iterator) ≡ form l.fn.query
