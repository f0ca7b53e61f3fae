use Rattle.std.proofs.Common.{◌≡◌, pos, neg_ℤ, ◌-ℤ◌, ◌∙◌, refl, arith}
use mir.Syntax.{w128}
use mir.Val.{to_z, of_z}
use Rattle.jiff_core.proofs.SignedLemmas.{back_small, signed_arith}
use Rattle.oauth2_openid.proofs.Times.{not_nan, unfitting, before_1970, after_1970}
use Rattle.oauth2_openid.proofs.numeric_date.moment_of_float.Goals as goal

pub is_sign_negative-requires : goal.is_sign_negative-requires
is_sign_negative-requires c = not_nan c.args.seconds c.in-Some.ensures.0

pub returns-then-is_sign_negative : goal.returns-then-is_sign_negative
returns-then-is_sign_negative c =
    let size = c.in-Some.size in
    let back : to_z w128 (of_z w128 size) ≡ size = back_small w128 size (omega (arith, signed_arith, c.in-Some.ensures.1, c.in-Some.ensures.2)) in
    let minus : pos 0 -ℤ size ≡ neg_ℤ size = omega (arith, signed_arith) in
    let negated : to_z w128 (of_z w128 (pos 0 -ℤ size)) ≡ neg_ℤ size = back_small w128 (pos 0 -ℤ size) (omega (arith, signed_arith, c.in-Some.ensures.1, c.in-Some.ensures.2)) ∙ minus in
    before_1970 c.args.seconds size (neg_ℤ size) _ c.in-Some.ensures.0 c.in-Some.ensures.1 c.if-is_sign_negative.ensures refl (rw (back, negated) at c.moment_at.ensures)

pub returns-else-is_sign_negative : goal.returns-else-is_sign_negative
returns-else-is_sign_negative c =
    let size = c.in-Some.size in
    let back : to_z w128 (of_z w128 size) ≡ size = back_small w128 size (omega (arith, signed_arith, c.in-Some.ensures.1, c.in-Some.ensures.2)) in
    after_1970 c.args.seconds size _ c.in-Some.ensures.0 c.in-Some.ensures.1 c.if-is_sign_negative.ensures (rw back at c.moment_at-else-is_sign_negative.ensures)

pub returns-in-None : goal.returns-in-None
returns-in-None c = unfitting c.args.seconds c.in-None.ensures
