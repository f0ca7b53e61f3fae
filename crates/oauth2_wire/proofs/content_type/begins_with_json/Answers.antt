use Rattle.std.proofs.Common.{◌≡◌, ℕ, List, Bool, true, take, map, codes, sym, ap, ◌∙◌}
use Rattle.std.specs.Char.{to_ascii_lowercase}
use Rattle.std.proofs.lemmas.Bool.Decides.{same_from_decides}
use Rattle.std.proofs.lemmas.Slice.Eq.{bytes_eq-Decides}
use Rattle.oauth2_wire.specs.ContentType.{begins_with_json}
use Rattle.oauth2_wire.proofs.content_type.begins_with_json.Goals as goal

same : (r : Bool) (front name value : List ℕ) → front ≡ take 16 value → name ≡ codes "application/json"
    → ((r ≡ true → map to_ascii_lowercase front ≡ map to_ascii_lowercase name) × (map to_ascii_lowercase front ≡ map to_ascii_lowercase name → r ≡ true))
    → r ≡ begins_with_json value
same r front name value at_front named test =
    let lowered : map to_ascii_lowercase (take 16 value) ≡ map to_ascii_lowercase front = ap (map to_ascii_lowercase) (sym at_front) in
    let itself : map to_ascii_lowercase name ≡ codes "application/json" = ap (map to_ascii_lowercase) named in
    let decides = bytes_eq-Decides (map to_ascii_lowercase (take 16 value)) (codes "application/json") in
    same_from_decides r (begins_with_json value) (λ e. lowered ∙ test.0 e ∙ itself, λ e. test.1 (sym lowered ∙ e ∙ sym itself)) decides

pub returns : goal.returns
returns c = same c.eq_ignore_ascii_case.result c.front.result.now c.as_slice.result.now c.args.value.now c.front.ensures c.as_slice.ensures c.eq_ignore_ascii_case.ensures.test
