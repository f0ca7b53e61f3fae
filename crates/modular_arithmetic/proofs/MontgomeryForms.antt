-- Montgomery's form modulo p: the weight w has the inverse i, and limbs of the value a stand for a * i.
use Rattle.std.proofs.Common.{◌≡◌, ℕ, ◌*◌, sym, arith, mul-one, one-mul}
use Rattle.modular_arithmetic.proofs.Same.{Same, same_of, same_sym, same_then, same_mul, same_refl}

-- Montgomery's product stands for the product
pub form_product : (p w i r a b : ℕ) → Same p (w * i) 1 → Same p (r * w) (a * b) → Same p (r * i) (a * i * (b * i))
form_product p w i r a b u h =
    let one : r * i ≡ r * i * 1 = sym (mul-one (r * i)) in
    let turn : r * i * (w * i) ≡ r * w * (i * i) = omega arith in
    let back : a * b * (i * i) ≡ a * i * (b * i) = omega arith in
    same_then (same_of one) (same_then (same_mul (same_refl (r * i)) (same_sym u))
    (same_then (same_of turn) (same_then (same_mul h (same_refl (i * i))) (same_of back))))

-- only 0 stands for 0
pub zero_form : (p w i a : ℕ) → Same p (w * i) 1 → Same p (a * i) 0 → Same p a 0
zero_form p w i a u h =
    let one : a ≡ a * 1 = sym (mul-one a) in
    let turn : a * (w * i) ≡ a * i * w = omega arith in
    let none : 0 * w ≡ 0 = omega arith in
    same_then (same_of one) (same_then (same_mul (same_refl a) (same_sym u)) (same_then (same_of turn) (same_then (same_mul h (same_refl w)) (same_of none))))

-- the product with the square of the weight stands for the value
pub to_form : (p w i a q : ℕ) → Same p (w * i) 1 → Same p q (w * w) → Same p (a * i * (q * i)) a
to_form p w i a q u h =
    let turn : a * i * (w * w * i) ≡ a * (w * i * (w * i)) = omega arith in
    let one : a * (1 * 1) ≡ a = omega arith in
    same_then (same_mul (same_refl (a * i)) (same_mul h (same_refl i))) (same_then (same_of turn) (same_then (same_mul (same_refl a) (same_mul u u)) (same_of one)))

-- the product with 1 is the number that is stood for
pub from_form : (p w i r h : ℕ) → Same p (w * i) 1 → Same p (r * i) (1 * i * h) → Same p r h
from_form p w i r h u e =
    let one : r ≡ r * 1 = sym (mul-one r) in
    let turn : r * (w * i) ≡ r * i * w = omega arith in
    let back : 1 * i * h * w ≡ w * i * h = omega arith in
    let last : 1 * h ≡ h = one-mul h in
    same_then (same_of one) (same_then (same_mul (same_refl r) (same_sym u)) (same_then (same_of turn) (same_then (same_mul e (same_refl w))
    (same_then (same_of back) (same_then (same_mul u (same_refl h)) (same_of last))))))

-- values that stand for the same number are the same
pub same_form : (p w i a b : ℕ) → Same p (w * i) 1 → Same p (a * i) (b * i) → Same p a b
same_form p w i a b u h =
    let front : (x : ℕ) → Same p x (x * i * w) = λ x.
    (let one : x ≡ x * 1 = sym (mul-one x) in let turn : x * (w * i) ≡ x * i * w = omega arith in
    same_then (same_of one) (same_then (same_mul (same_refl x) (same_sym u)) (same_of turn))) in
    same_then (front a) (same_then (same_mul h (same_refl w)) (same_sym (front b)))
