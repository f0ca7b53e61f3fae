-- Primes, and certificates of them (Lucas, Pratt).
use Rattle.std.proofs.Common.{◌≡◌, ℕ, zero, suc, ◌+◌, ◌-◌, ◌*◌, ◌/◌, ◌%◌, ◌^◌, ◌<◌, ◌≤◌, ◌⊎◌, inl, inr, List, [], ◌∷◌, Bool, true, false, ◌&&◌, not, nat_eq, nat_lt, if◌then◌else◌, refl, sym, ap, ◌∙◌, arith, pow-suc, mul-one, one-mul, mod-lt, mod-eq_of_lt, div-add-mod', pow-add, eqb-true, ltb-true, eq-eqb, ne_eqb, mul-zero, mul-suc, true≢false}
use Rattle.std.proofs.Math.Nat.{pow-zero, mod-mod, mul-mod_right, mul-div_cancel_left, eq_of_mul-eq-mul_left, zero-mod}
use Rattle.std.proofs.lemmas.Nat.{mul-pow}
use Rattle.std.proofs.lemmas.Bool.{cases_eq, and_parts}
use Rattle.modular_arithmetic.proofs.Same.{Same, same_of, same_sym, same_then, same_mul, same_refl}

-- each number that is not 0 modulo q has an inverse modulo q
pub record IsPrime (q : ℕ) : Type 0 where
  pub above : 1 < q
  pub inverse : (x : ℕ) → (x % q ≡ 0 → ⊥) → (y : ℕ) × ((x * y) % q ≡ 1)

abbrev pub AllPrime : List ℕ → Type 0
AllPrime [] = Unit {0}
AllPrime (q ∷ qs) = IsPrime q × AllPrime qs

unfoldable pub product : List ℕ → ℕ
product [] = 1
product (q ∷ qs) = q * product qs

-- b to the power of e modulo n, for an e of at most k bits
unfoldable pub power_mod : ℕ → ℕ → ℕ → ℕ → ℕ
power_mod zero b e n = 1 % n
power_mod (suc k) b e n = (b ^ (e % 2) * power_mod k ((b * b) % n) (e / 2) n) % n

unfoldable pub has_whole_order : ℕ → ℕ → ℕ → List ℕ → Bool
has_whole_order n g m [] = true
has_whole_order n g m (q ∷ qs) = not (nat_eq (power_mod 521 g (m / q) n) 1) && has_whole_order n g m qs

-- g to the power of n - 1 is 1 modulo n, and to no power of (n - 1) / q, for the prime factors q of n - 1
unfoldable pub is_certificate : ℕ → ℕ → List ℕ → Bool
is_certificate n g qs =
    nat_lt 1 n && (nat_lt n (2 ^ 521) && (nat_eq (product qs + 1) n && (nat_eq (power_mod 521 g (product qs) n) 1 && has_whole_order n g (product qs) qs)))

same_pow : (n a b k : ℕ) → Same n a b → Same n (a ^ k) (b ^ k)
same_pow n a b zero h = same_of (pow-zero a ∙ sym (pow-zero b))
same_pow n a b (suc k) h = same_then (same_of (pow-suc a k)) (same_then (same_mul (same_pow n a b k h) h) (same_of (sym (pow-suc b k))))

one-pow : (k : ℕ) → 1 ^ k ≡ 1
one-pow zero = pow-zero 1
one-pow (suc k) = pow-suc 1 k ∙ mul-one (1 ^ k) ∙ one-pow k

same_one : (n a k : ℕ) → Same n a 1 → Same n (a ^ k) 1
same_one n a k h = same_then (same_pow n a 1 k h) (same_of (one-pow k))

pow-pow : (b k j : ℕ) → (b ^ k) ^ j ≡ b ^ (k * j)
pow-pow b k zero = pow-zero (b ^ k) ∙ sym (pow-zero b) ∙ ap (λ t. b ^ t) (sym (mul-zero k))
pow-pow b k (suc j) = pow-suc (b ^ k) j ∙ ap (λ t. t * b ^ k) (pow-pow b k j) ∙ sym (pow-add b (k * j) k) ∙ ap (λ t. b ^ t) (sym (mul-suc k j))

power_mod-residue : (k b e n : ℕ) → power_mod k b e n % n ≡ power_mod k b e n
unfolding power_mod
power_mod-residue zero b e n = mod-mod 1 n
power_mod-residue (suc k) b e n = mod-mod (b ^ (e % 2) * power_mod k ((b * b) % n) (e / 2) n) n

half_below : (e k : ℕ) → e < 2 ^ suc k → e / 2 < 2 ^ k
half_below e k h = let p = pow-suc 2 k in omega (arith, p, h)

power_mod-is : (k b e n : ℕ) → e < 2 ^ k → Same n (power_mod k b e n) (b ^ e)
unfolding power_mod
power_mod-is zero b e n h =
    let none : e ≡ 0 = omega (arith, pow-zero 2, h) in
    record { same = mod-mod 1 n ∙ ap (λ t. t % n) (sym (ap (λ t. b ^ t) none ∙ pow-zero b)) }
power_mod-is (suc k) b e n h =
    let half = e / 2 in
    let rest : Same n (power_mod k ((b * b) % n) half n) (b ^ half * b ^ half) =
    same_then (power_mod-is k ((b * b) % n) half n (half_below e k h))
    (same_then (same_pow n ((b * b) % n) (b * b) half (record { same = mod-mod (b * b) n })) (same_of (mul-pow b b half))) in
    let parts : e % 2 + (half + half) ≡ e = omega arith in
    let whole : b ^ (e % 2) * (b ^ half * b ^ half) ≡ b ^ e =
    ap (λ t. b ^ (e % 2) * t) (sym (pow-add b half half)) ∙ sym (pow-add b (e % 2) (half + half)) ∙ ap (λ t. b ^ t) parts in
    same_then (record { same = mod-mod (b ^ (e % 2) * power_mod k ((b * b) % n) half n) n })
    (same_then (same_mul (same_refl (b ^ (e % 2))) rest) (same_of whole))

one_is : (n : ℕ) → 1 < n → 1 % n ≡ 1
one_is n h = mod-eq_of_lt h

power_mod-one : (b e n : ℕ) → 1 < n → e < 2 ^ 521 → Same n (b ^ e) 1 → power_mod 521 b e n ≡ 1
power_mod-one b e n a h s = sym (power_mod-residue 521 b e n) ∙ (same_then (power_mod-is 521 b e n h) s).same ∙ one_is n a

power_mod-back : (b e n : ℕ) → e < 2 ^ 521 → power_mod 521 b e n ≡ 1 → Same n (b ^ e) 1
power_mod-back b e n h s = same_then (same_sym (power_mod-is 521 b e n h)) (same_of s)

-- a product of primes that c divides has one that divides c
no_factor_of : (q m c t r : ℕ) → IsPrime q → ((e : ℕ) → c ≡ q * e → ⊥) → ((u : ℕ) → c * u ≡ m → ⊥) → c * t ≡ q * m → c % q ≡ r → ⊥
no_factor_of q m c t zero prime other rest e z = other (c / q) (omega (arith, div-add-mod' c q, z))
no_factor_of q m c t (suc r) prime other rest e z =
    let i = prime.inverse c (λ w. absurd (omega (arith, w, z))) in
    let y = i.0 in
    let above = prime.above in
    let unit : Same q (c * y) 1 = record { same = i.1 ∙ sym (one_is q above) } in
    let one : t ≡ t * 1 = sym (mul-one t) in
    let turn : t * (c * y) ≡ q * (m * y) = omega (arith, ap (λ s. s * y) e) in
    let t-zero : t % q ≡ 0 = (same_then (same_of one) (same_then (same_mul (same_refl t) (same_sym unit)) (same_of turn))).same ∙ mul-mod_right q (m * y) in
    let t-is : t ≡ q * (t / q) = omega (arith, div-add-mod' t q, t-zero) in
    let parts : q * (c * (t / q)) ≡ q * m = omega (arith, e, ap (λ s. c * s) t-is) in
    rest (t / q) (eq_of_mul-eq-mul_left q (omega arith) (c * (t / q)) m parts)

not_true : (b : Bool) → not b ≡ true → b ≡ true → ⊥
not_true true h e = true≢false (sym h)
not_true false h e = true≢false (sym e)

no_factor : (n g m d c : ℕ) → 1 < n → m < 2 ^ 521 → m ≡ d * c → 1 < c → Same n (g ^ d) 1 → (qs : List ℕ) (t : ℕ) → AllPrime qs
    → has_whole_order n g m qs ≡ true → c * t ≡ product qs → ⊥
unfolding product has_whole_order
no_factor n g m d c a bits e l s [] zero p h z = absurd (omega (arith, z, mul-zero c))
no_factor n g m d c a bits e l s [] (suc t) p h z = absurd (omega (arith, z, mul-suc c t))
no_factor n g m d c a bits e l s (q ∷ qs) t p h z =
    let parts = and_parts (not (nat_eq (power_mod 521 g (m / q) n) 1)) (has_whole_order n g m qs) h in
    let positive : 0 < q = let b = p.0.above in omega arith in
    no_factor_of q (product qs) c t (c % q) p.0
    (λ u w. not_true (nat_eq (power_mod 521 g (m / q) n) 1) parts.0 (eq-eqb (power_mod 521 g (m / q) n) 1
    (let whole : m ≡ q * (d * u) = omega (arith, e, ap (λ s. d * s) w) in
    let quotient : m / q ≡ d * u = ap (λ s. s / q) whole ∙ mul-div_cancel_left (d * u) positive in
    let below : m / q < 2 ^ 521 = omega arith in
    power_mod-one g (m / q) n a below (same_then (same_of (ap (λ s. g ^ s) quotient ∙ sym (pow-pow g d u))) (same_one n (g ^ d) u s)))))
    (λ u w. no_factor n g m d c a bits e l s qs u p.1 parts.1 w) z refl

more_than_one : (m d c : ℕ) → m ≡ d * c → d < m → 1 < c
more_than_one m d zero e h = absurd (omega (arith, e, mul-zero d))
more_than_one m d (suc zero) e h = absurd (omega (arith, e, mul-one d))
more_than_one m d (suc (suc c)) e h = omega arith

-- no power of g below m is 1
no_order : (n g m : ℕ) → Same n (g ^ m) 1 → ((d c : ℕ) → m ≡ d * c → 1 < c → Same n (g ^ d) 1 → ⊥)
    → (fuel d r : ℕ) → m % d ≡ r → d ≤ fuel → 0 < d → d < m → Same n (g ^ d) 1 → ⊥
no_order n g m whole proper zero d r e f p l s = omega arith
no_order n g m whole proper (suc fuel) d zero e f p l s =
    let parts : m ≡ d * (m / d) = omega (arith, div-add-mod' m d, e) in
    proper d (m / d) parts (more_than_one m d (m / d) parts l) s
no_order n g m whole proper (suc fuel) d (suc r) e f p l s =
    let k = m / d in
    let below : m % d < d = mod-lt m p in
    let parts : d * k + suc r ≡ m = omega (arith, div-add-mod' m d, e) in
    let split : g ^ m ≡ (g ^ d) ^ k * g ^ suc r = ap (λ t. g ^ t) (sym parts) ∙ pow-add g (d * k) (suc r) ∙ ap (λ t. t * g ^ suc r) (sym (pow-pow g d k)) in
    let front : Same n (g ^ m) (1 * g ^ suc r) = same_then (same_of split) (same_mul (same_one n (g ^ d) k s) (same_refl (g ^ suc r))) in
    let rest : Same n (g ^ suc r) 1 = same_then (same_of (sym (one-mul (g ^ suc r)))) (same_then (same_sym front) whole) in
    no_order n g m whole proper fuel (suc r) (m % suc r) refl (omega arith) (omega arith) (omega arith) rest

-- each number below m is a value of f, which has m values below m, all different
moved : ℕ → ℕ → ℕ → ℕ
moved v m x = if nat_eq x m then v else x

moved-cases : (v m x : ℕ) → ((x ≡ m) × (moved v m x ≡ v)) ⊎ ((x ≡ m → ⊥) × (moved v m x ≡ x))
unfolding moved
moved-cases v m x = elim (cases_eq x m) [ inl e ↦ inl (e, rw (eq-eqb x m e) refl) | inr ne ↦ inr (ne, rw (ne_eqb x m ne) refl) ]

moved-below : (v m x : ℕ) → v < suc m → x < suc m → (x ≡ v → ⊥) → moved v m x < m
moved-below v m x a b ne =
    elim (moved-cases v m x) [
      | inl h ↦ let e = h.0 in let w = h.1 in let other : v ≡ m → ⊥ = λ k. ne (e ∙ sym k) in omega (arith, e, w, other)
      | inr h ↦ let e = h.0 in let w = h.1 in omega (arith, e, w)
    ]

moved-same : (v m x y : ℕ) → (x ≡ v → ⊥) → (y ≡ v → ⊥) → moved v m x ≡ moved v m y → x ≡ y
moved-same v m x y nx ny e =
    elim (moved-cases v m x) [
      | inl h ↦ elim (moved-cases v m y) [ inl k ↦ h.0 ∙ sym k.0 | inr k ↦ absurd (ny (sym k.1 ∙ sym e ∙ h.1)) ]
      | inr h ↦ elim (moved-cases v m y) [ inl k ↦ absurd (nx (sym h.1 ∙ e ∙ k.1)) | inr k ↦ sym h.1 ∙ e ∙ k.1 ]
    ]

hits : (m : ℕ) (f : ℕ → ℕ) → ((i : ℕ) → i < m → f i < m) → ((i j : ℕ) → i < j → j < m → f i ≡ f j → ⊥) → (y : ℕ) → y < m
    → (i : ℕ) × ((i < m) × (f i ≡ y))
hits zero f b d y h = absurd (omega arith)
hits (suc m) f b d y h =
    let v = f m in
    let last : v < suc m = b m (omega arith) in
    let other : (i : ℕ) → i < m → f i ≡ v → ⊥ = λ i l. d i m l (omega arith) in
    elim (cases_eq y v) [
      | inl e ↦ (m, (omega arith, sym e))
      | inr ne ↦
          let found = hits m (λ i. moved v m (f i))
          (λ i l. moved-below v m (f i) last (b i (omega arith)) (other i l))
          (λ i j l k w. d i j l (omega arith) (moved-same v m (f i) (f j) (other i (omega arith)) (other j k) w))
          (moved v m y) (moved-below v m y last h ne) in
          let i = found.0 in
          let l : i < m = found.1.0 in
          (i, (omega arith, moved-same v m (f i) y (other i l) ne found.1.1))
    ]

-- what `lucas` needs of g: its powers below m + 1 are different
distinct : (n g m : ℕ) → Same n (g ^ m) 1 → ((d c : ℕ) → m ≡ d * c → 1 < c → Same n (g ^ d) 1 → ⊥)
    → (i j : ℕ) → i < j → j < m → Same n (g ^ i) (g ^ j) → ⊥
distinct n g m whole proper i j l k s =
    let rest = m - i in
    let d = j - i in
    let first : g ^ i * g ^ rest ≡ g ^ m = sym (pow-add g i rest) ∙ ap (λ t. g ^ t) (let e : i + rest ≡ m = omega arith in e) in
    let second : g ^ j * g ^ rest ≡ g ^ d * g ^ m =
    sym (pow-add g j rest) ∙ ap (λ t. g ^ t) (let e : j + rest ≡ d + m = omega arith in e) ∙ pow-add g d m in
    let one : Same n (g ^ d) 1 =
    same_then (same_of (sym (mul-one (g ^ d)))) (same_then (same_mul (same_refl (g ^ d)) (same_sym whole))
    (same_then (same_of (sym second)) (same_then (same_mul (same_sym s) (same_refl (g ^ rest))) (same_then (same_of first) whole)))) in
    no_order n g m whole proper d d (m % d) refl (omega arith) (omega arith) (omega arith) one

not_zero : (n g m i : ℕ) → 1 < n → Same n (g ^ m) 1 → i < m → g ^ i % n ≡ 0 → ⊥
not_zero n g m i a whole l z =
    let rest = m - i in
    let split : g ^ i * g ^ rest ≡ g ^ m = sym (pow-add g i rest) ∙ ap (λ t. g ^ t) (let e : i + rest ≡ m = omega arith in e) in
    let zero_is : Same n (g ^ i) 0 = record { same = z ∙ sym (zero-mod n) } in
    let none : 0 * g ^ rest ≡ 0 = omega arith in
    let none_is : Same n 1 0 =
    same_then (same_sym whole) (same_then (same_of (sym split)) (same_then (same_mul zero_is (same_refl (g ^ rest))) (same_of none))) in
    let bad : 1 % n ≡ 0 % n = none_is.same in
    let first : 1 % n ≡ 1 = one_is n a in
    let last : 0 % n ≡ 0 = zero-mod n in
    omega (arith, bad, first, last)

-- modulo n the powers of g are all numbers but 0, so each to the power of n - 1 is 1
little : (n g m : ℕ) → 1 < n → n ≡ suc m → Same n (g ^ m) 1 → ((d c : ℕ) → m ≡ d * c → 1 < c → Same n (g ^ d) 1 → ⊥)
    → (x : ℕ) → (x % n ≡ 0 → ⊥) → Same n (x ^ m) 1
little n g m a e whole proper x nz =
    let positive : 0 < n = omega arith in
    let below : (i : ℕ) → g ^ i % n < n = λ i. mod-lt (g ^ i) positive in
    let x-below : x % n < n = mod-lt x positive in
    let found = hits m (λ i. g ^ i % n - 1)
    (λ i l. let z = not_zero n g m i a whole l in let b = below i in omega (arith, z, b))
    (λ i j l k w. distinct n g m whole proper i j l k
    (record { same = let z = not_zero n g m i a whole (let q : i < m = omega arith in q) in let y = not_zero n g m j a whole k in omega (arith, z, y, w) }))
    (x % n - 1) (omega (arith, nz, x-below)) in
    let i = found.0 in
    let z = not_zero n g m i a whole found.1.0 in
    let w = found.1.1 in
    let is : Same n x (g ^ i) = record { same = omega (arith, z, nz, w) } in
    let turn : (g ^ i) ^ m ≡ (g ^ m) ^ i = pow-pow g i m ∙ ap (λ t. g ^ t) (let r : i * m ≡ m * i = omega arith in r) ∙ sym (pow-pow g m i) in
    same_then (same_pow n x (g ^ i) m is) (same_then (same_of turn) (same_one n (g ^ m) i whole))

-- what a certificate shows
pub record Certified (n : ℕ) : Type 0 where
  pub prime : IsPrime n
  pub little : (x : ℕ) → (x % n ≡ 0 → ⊥) → (x * x ^ (n - 2)) % n ≡ 1

certified_of : (n g m : ℕ) → 1 < n → n ≡ suc (suc m) → Same n (g ^ suc m) 1 → ((d c : ℕ) → suc m ≡ d * c → 1 < c → Same n (g ^ d) 1 → ⊥) → Certified n
certified_of n g m a e whole proper =
    let exponent : n - 2 ≡ m = omega arith in
    let inverse : (x : ℕ) → (x % n ≡ 0 → ⊥) → (x * x ^ m) % n ≡ 1 = λ x nz.
    let turn : x * x ^ m ≡ x ^ suc m = (let r : x * x ^ m ≡ x ^ m * x = omega arith in r) ∙ sym (pow-suc x m) in
    ap (λ t. t % n) turn ∙ (little n g (suc m) a e whole proper x nz).same ∙ one_is n a in
    record {
      prime = record { above = a; inverse = λ x nz. (x ^ m, inverse x nz) };
      little = λ x nz. ap (λ t. (x * x ^ t) % n) exponent ∙ inverse x nz;
    }

certified_by : (n g m k : ℕ) (qs : List ℕ) → product qs ≡ m → m ≡ k → 1 < n → n < 2 ^ 521 → m + 1 ≡ n → power_mod 521 g m n ≡ 1
    → has_whole_order n g m qs ≡ true → AllPrime qs → Certified n
certified_by n g m zero qs p k a b e one order primes = absurd (omega arith)
certified_by n g m (suc k) qs p w a b e one order primes =
    let bits : m < 2 ^ 521 = omega arith in
    let whole : Same n (g ^ suc k) 1 = same_then (same_of (ap (λ t. g ^ t) (sym w))) (power_mod-back g m n bits one) in
    let is : n ≡ suc (suc k) = omega arith in
    certified_of n g k a is whole
    (λ d c f l s. no_factor n g m d c a bits (w ∙ f) l s qs d primes order (let turn : c * d ≡ d * c = omega arith in turn ∙ sym f ∙ sym w ∙ sym p))

-- Lucas' theorem
pub lucas : (n g : ℕ) (qs : List ℕ) → is_certificate n g qs ≡ true → AllPrime qs → Certified n
unfolding is_certificate
lucas n g qs h primes =
    let m = product qs in
    let a = and_parts (nat_lt 1 n) _ h in
    let b = and_parts (nat_lt n (2 ^ 521)) _ a.1 in
    let c = and_parts (nat_eq (m + 1) n) _ b.1 in
    let d = and_parts (nat_eq (power_mod 521 g m n) 1) _ c.1 in
    certified_by n g m m qs refl refl (ltb-true 1 n a.0) (ltb-true n (2 ^ 521) b.0) (eqb-true (m + 1) n c.0) (eqb-true (power_mod 521 g m n) 1 d.0) d.1 primes

pub two_is_prime : IsPrime 2
two_is_prime = record {
  above = omega arith;
  inverse = λ x nz. (1, let one : x * 1 ≡ x = mul-one x in let b : x % 2 < 2 = mod-lt x (omega arith) in ap (λ t. t % 2) one ∙ omega (arith, nz, b));
}

three : Certified 3
unfolding is_certificate product has_whole_order power_mod
three = lucas 3 2 (2 ∷ []) refl (two_is_prime, tt)
