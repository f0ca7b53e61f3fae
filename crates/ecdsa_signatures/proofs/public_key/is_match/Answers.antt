use Rattle.std.proofs.Common.{◌≡◌, ◌*◌, ◌%◌, ◌↔◌, IsTrue, Some, subst, ◌∙◌}
use Rattle.ecdsa_signatures.specs.Curve.{order, multiples}
use Rattle.ecdsa_signatures.specs.Signature.{HasX, factor}
use Rattle.ecdsa_signatures.specs.private.Coordinates.{value, point_of}
use Rattle.ecdsa_signatures.proofs.public_key.is_match.Goals as goal

pub returns : goal.returns
returns c =
    let k = c.args.curve in
    let n = order k in
    let key = point_of k (Some c.args.key.now) in
    let inverse-is = c.invert-inverse.ensures.value in
    let u : value k c.times-u.result ≡ factor n (value k c.args.e.now) (value k c.args.s.now) = c.times-u.ensures ∙ (λ j. (value k c.args.e.now * inverse-is j) % n) in
    let v : value k c.times-v.result ≡ factor n (value k c.args.r.now) (value k c.args.s.now) = c.times-v.ensures ∙ (λ j. (value k c.args.r.now * inverse-is j) % n) in
    let found = c.has_x.ensures _ c.multiples-total.ensures.point in
    subst (λ t. IsTrue c.has_x.result ↔ HasX n t (value k c.args.r.now)) (λ j. multiples k (u j) (v j) (c.base_point.ensures.value j) key) found
