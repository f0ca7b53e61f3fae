use Rattle.std.proofs.Common.{◌∙◌, ap, ◌%◌, ◌<◌, ◌*◌, [], ◌∷◌, subst}
use Rattle.modular_arithmetic.specs.Limbs.{limb_weight, value_below}
use Rattle.eddsa_signatures.specs.Field.{prime}
use Rattle.eddsa_signatures.proofs.Constants.{prime_limbs, prime_square, prime_square-below}
use Rattle.eddsa_signatures.proofs.Forms.{held-of}
use Rattle.modular_arithmetic.proofs.Same.{same_mod}
use Rattle.eddsa_signatures.proofs.field.form.Goals as goal

pub form_product-requires : goal.form_product-requires
form_product-requires c = subst (λ t. value_below (1444 ∷ 0 ∷ 0 ∷ 0 ∷ []) 4 < t) prime_limbs prime_square-below

pub returns : goal.returns
returns c =
    let square = prime_square ∙ ap (λ t. (limb_weight 4 * limb_weight 4) % t) prime_limbs in
    held-of c.form_product.result c.args.limbs.now (1444 ∷ 0 ∷ 0 ∷ 0 ∷ []) c.requires (same_mod prime _ _ square) c.form_product.ensures.held
