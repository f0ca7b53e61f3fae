-- The number that bytes hold.
use Rattle.modular_arithmetic.proofs.OctetNumbers.{number_onto-append, number_onto_same, number_onto-lt, take_more, number-lt, AreOctets-cons, power_some, octets_are}
use Rattle.std.proofs.Common.{◌≡◌, ℕ, zero, suc, ◌+◌, ◌-◌, ◌*◌, ◌/◌, ◌%◌, ◌^◌, ◌<◌, ◌≤◌, List, [], ◌∷◌, ◌++◌, length, replicate, take, drop, get_or, set, refl, sym, ap, ◌∙◌, arith, pow-suc, pow-add, mul-le-mul_right, add-one, length-append, length-drop, take-append-drop, append_assoc, lit<, inl, inr}
use Rattle.std.proofs.Math.Nat.{pow-zero, pow-le-pow_right}
use Rattle.std.proofs.lemmas.Bool.{cases_lt}
use Rattle.std.proofs.lemmas.List.{length-replicate, length-take-le, get_or-drop, get_or_at, ext_get_or, take_all, take_at}
use Rattle.modular_arithmetic.specs.Octets.{number_onto, number, AreOctets}
use Rattle.rsa_signatures.specs.Octets.{octets_of}
use Rattle.rsa_signatures.specs.Octets.{HasBits, HasOctets}
use Rattle.rsa_signatures.specs.Pkcs1.{with_padding}
use Rattle.modular_arithmetic.proofs.LimbValues.{zeros}
use Rattle.modular_arithmetic.proofs.Congruences.{pow-pow}

replicate-more : (n x : ℕ) → replicate (suc n) x ≡ replicate n x ++ x ∷ []
replicate-more zero x = refl
replicate-more (suc n) x = ap (λ t. x ∷ t) (replicate-more n x)

pub replicate-suc : (n x : ℕ) → replicate (n + 1) x ≡ replicate n x ++ x ∷ []
replicate-suc n x = rw (add-one n) (replicate-more n x)

pub push_more : (a v : ℕ) (xs ys : List ℕ) (w : ℕ) → a % w ≡ number xs % w → v % w ≡ number_onto a ys % w → v % w ≡ number (xs ++ ys) % w
push_more a v xs ys w e f = f ∙ number_onto_same a (number xs) ys w e ∙ ap (λ t. t % w) (sym (number_onto-append 0 xs ys))

pub AreOctets-append : (xs ys : List ℕ) → AreOctets xs → AreOctets ys → AreOctets (xs ++ ys)
AreOctets-append [] ys h k i = k i
AreOctets-append (x ∷ xs) ys h k zero = h zero
AreOctets-append (x ∷ xs) ys h k (suc i) = AreOctets-append xs ys (λ j. h (suc j)) k i

pub AreOctets-replicate : (n x : ℕ) → x < 256 → AreOctets (replicate n x)
AreOctets-replicate zero x p i = lit< tt
AreOctets-replicate (suc n) x p zero = p
AreOctets-replicate (suc n) x p (suc i) = AreOctets-replicate n x p i

pub pushed_is : (k : ℕ) (prefix digest : List ℕ)
    → ((((0 ∷ 1 ∷ []) ++ replicate k 255) ++ 0 ∷ []) ++ prefix) ++ digest ≡ 0 ∷ 1 ∷ (replicate k 255 ++ 0 ∷ (prefix ++ digest))
pushed_is k prefix digest = simp append_assoc

pub with_padding-octets : (size : ℕ) (t : List ℕ) → AreOctets t → AreOctets (with_padding size t)
with_padding-octets size t h =
    let ones : List ℕ = replicate (size - length t - 3) 255 in
    let end : AreOctets (0 ∷ t) = AreOctets-cons 0 t (lit< tt) h in
    let rest : AreOctets (ones ++ 0 ∷ t) = AreOctets-append ones (0 ∷ t) (AreOctets-replicate (size - length t - 3) 255 (lit< tt)) end in
    AreOctets-cons 0 (1 ∷ (ones ++ 0 ∷ t)) (lit< tt) (AreOctets-cons 1 (ones ++ 0 ∷ t) (lit< tt) rest)

pub length-with_padding : (size : ℕ) (t : List ℕ) → length t + 3 ≤ size → length (with_padding size t) ≡ size
length-with_padding size t h =
    let ones : List ℕ = replicate (size - length t - 3) 255 in
    let count : length ones ≡ size - length t - 3 = length-replicate (size - length t - 3) 255 in
    omega (arith, length-append ones (0 ∷ t), count)

-- a zero in front does not count
pub number-zero : (xs : List ℕ) → number (0 ∷ xs) ≡ number xs
unfolding number_onto
number-zero xs = refl

-- the first byte is the highest
pub number_onto-least : (n : ℕ) (xs : List ℕ) → n * 256 ^ length xs ≤ number_onto n xs
unfolding number_onto
number_onto-least n [] = rw pow-zero (omega arith)
number_onto-least n (x ∷ xs) =
    let more : 256 * n * 256 ^ length xs ≤ (256 * n + x) * 256 ^ length xs = mul-le-mul_right (256 ^ length xs) (omega arith) in
    rw (pow-suc 256 (length xs)) (omega (arith, number_onto-least (256 * n + x) xs))

pub number-least : (x : ℕ) (xs : List ℕ) → x * 256 ^ length xs ≤ number (x ∷ xs)
unfolding number_onto
number-least x xs = omega (arith, number_onto-least (256 * 0 + x) xs)

pub number-below : (x : ℕ) (xs : List ℕ) → AreOctets xs → number (x ∷ xs) < (x + 1) * 256 ^ length xs
unfolding number_onto
number-below x xs h = omega (arith, number_onto-lt (256 * 0 + x) xs h)

-- a number has one count of bytes
pub HasOctets-one : (n a b : ℕ) → HasOctets n a → HasOctets n b → a ≤ b
HasOctets-one n a b h k =
    let pos : 0 < 256 = omega arith in
    elim (cases_lt b a) [
      | inl l ↦ absurd (omega (arith, h.0, k.1, let more : 256 ^ b ≤ 256 ^ (a - 1) = pow-le-pow_right pos (omega arith) in more))
      | inr l ↦ omega arith
    ]

-- ---- numbers and their octets

-- what is added to the digits before the octets
pub number_onto-more : (a b : ℕ) (xs : List ℕ) → number_onto (a + b) xs ≡ number_onto a xs + b * 256 ^ length xs
unfolding number_onto
number_onto-more a b [] = rw pow-zero (omega arith)
number_onto-more a b (x ∷ xs) =
    let e : 256 * (a + b) + x ≡ 256 * a + x + 256 * b = omega arith in
    let wider : 256 * b * 256 ^ length xs ≡ b * 256 ^ suc (length xs) = rw (pow-suc 256 (length xs)) (omega arith) in
    ap (λ t. number_onto t xs) e ∙ number_onto-more (256 * a + x) (256 * b) xs ∙ ap (λ t. number_onto (256 * a + x) xs + t) wider

pub number-append : (xs ys : List ℕ) → number (xs ++ ys) ≡ number xs * 256 ^ length ys + number ys
number-append xs ys =
    let start : number xs ≡ 0 + number xs = omega arith in
    omega (arith, number_onto-append 0 xs ys, ap (λ t. number_onto t ys) start, number_onto-more 0 (number xs) ys)

-- an octet that was 0 is written
pub number_onto-set : (n : ℕ) (xs : List ℕ) (i j x : ℕ) → i + j + 1 ≡ length xs → get_or xs i 0 ≡ 0 → number_onto n (set xs i x) ≡ number_onto n xs + x * 256 ^ j
unfolding number_onto
number_onto-set n [] i j x e z = absurd (omega arith)
number_onto-set n (y ∷ ys) zero j x e z =
    let at : j ≡ length ys = omega arith in
    let first : 256 * n + x ≡ 256 * n + y + x = omega arith in
    ap (λ t. number_onto t ys) first ∙ number_onto-more (256 * n + y) x ys ∙ ap (λ t. number_onto (256 * n + y) ys + x * 256 ^ t) (sym at)
number_onto-set n (y ∷ ys) (suc i) j x e z = number_onto-set (256 * n + y) ys i j x (omega arith) z

-- one octet's turn of `put`
pub put_turn : (v rest w : ℕ) → v + rest % 256 * w + rest / 256 * (w * 256) ≡ v + rest * w
put_turn v rest w =
    let parts : rest % 256 + rest / 256 * 256 ≡ rest = omega arith in
    omega (arith, ap (λ t. t * w) parts)

pub number-zeros : (n : ℕ) → number (replicate n 0) ≡ 0
unfolding number_onto
number-zeros zero = refl
number-zeros (suc n) = number-zeros n

pub are_zeros : (xs : List ℕ) → ((k : ℕ) → k < length xs → get_or xs k 0 ≡ 0) → xs ≡ replicate (length xs) 0
are_zeros xs h = ext_get_or 0 xs (replicate (length xs) 0) (sym (length-replicate (length xs) 0)) (λ i l. h i l ∙ sym (zeros (length xs) i))

pub zeros_at : (xs : List ℕ) (n k : ℕ) → xs ≡ replicate n 0 → get_or xs k 0 ≡ 0
zeros_at xs n k e = ap (λ t. get_or t k 0) e ∙ zeros n k

-- zeros and then a one
pub padding_is : (xs : List ℕ) (n : ℕ) → n + 1 ≡ length xs → ((k : ℕ) → k < length (take n xs) → get_or (take n xs) k 0 ≡ 0) → get_or xs n 0 ≡ 1
    → xs ≡ replicate n 0 ++ 1 ∷ []
padding_is xs n e h one =
    let front : length (take n xs) ≡ n = length-take-le n xs (omega arith) in
    let zeros-are : take n xs ≡ replicate n 0 = are_zeros (take n xs) h ∙ ap (λ t. replicate t 0) front in
    let whole : take (n + 1) xs ≡ xs = take_all (n + 1) xs (omega arith) in
    sym whole ∙ take_more xs n (omega arith) ∙ (λ j. zeros-are j ++ one j ∷ [])

pub padding_at : (xs : List ℕ) (n : ℕ) → n + 1 ≡ length xs → xs ≡ replicate n 0 ++ 1 ∷ [] → (((k : ℕ) → k < length (take n xs) → get_or (take n xs) k 0 ≡ 0) × (get_or xs n 0 ≡ 1))
padding_at xs n l e =
    let count : length (replicate n 0) ≡ n = length-replicate n 0 in
    let front : take n xs ≡ replicate n 0 = ap (take n) e ∙ take_at (replicate n 0) (1 ∷ []) n count in
    (λ k h. zeros_at (take n xs) n k front, ap (λ t. get_or t n 0) e ∙ get_or_at (replicate n 0) 1 [] 0 n count)

pub zeros_of_number : (xs : List ℕ) → number xs ≡ 0 → xs ≡ replicate (length xs) 0
zeros_of_number [] e = refl
zeros_of_number (zero ∷ xs) e = ap (λ t. 0 ∷ t) (zeros_of_number xs (sym (number-zero xs) ∙ e))
zeros_of_number (suc x ∷ xs) e =
    let more : 1 * 256 ^ length xs ≤ suc x * 256 ^ length xs = mul-le-mul_right (256 ^ length xs) (omega arith) in
    absurd (omega (arith, number-least (suc x) xs, more, power_some (length xs), e))

small_product : (a w r m : ℕ) → m ≡ a * w + r → m < w → a ≡ 0
small_product zero w r m e l = refl
small_product (suc a) w r m e l = absurd (omega arith)

number-split : (xs : List ℕ) (mid size m : ℕ) → mid + size ≡ length xs → number xs ≡ m → m ≡ number (take mid xs) * 256 ^ size + number (drop mid xs)
number-split xs mid size m l e =
    let rest : length (drop mid xs) ≡ size = omega (arith, length-drop mid xs) in
    sym e ∙ ap number (sym (take-append-drop mid xs)) ∙ number-append (take mid xs) (drop mid xs) ∙ ap (λ t. number (take mid xs) * 256 ^ t + number (drop mid xs)) rest

-- octets whose front is zeros
pub front_is_zeros : (xs : List ℕ) (mid size m : ℕ) → mid + size ≡ length xs → AreOctets xs → number xs ≡ m
    → take mid xs ≡ replicate (length (take mid xs)) 0 → (m < 256 ^ size) × (drop mid xs ≡ octets_of size m)
front_is_zeros xs mid size m l h e z =
    let rest : length (drop mid xs) ≡ size = omega (arith, length-drop mid xs) in
    let none : number (take mid xs) ≡ 0 = ap number z ∙ number-zeros (length (take mid xs)) in
    let is : m ≡ number (drop mid xs) = omega (arith, number-split xs mid size m l e, ap (λ t. t * 256 ^ size) none) in
    let octets : AreOctets (drop mid xs) = λ i. rw get_or-drop (h (mid + i)) in
    (omega (arith, is, number-lt (drop mid xs) octets, ap (λ t. 256 ^ t) rest), octets_are (drop mid xs) size m octets rest (sym is))

pub zeros_in_front : (xs : List ℕ) (mid size m : ℕ) → mid + size ≡ length xs → number xs ≡ m → m < 256 ^ size
    → take mid xs ≡ replicate (length (take mid xs)) 0
zeros_in_front xs mid size m l e fits =
    zeros_of_number (take mid xs) (small_product (number (take mid xs)) (256 ^ size) (number (drop mid xs)) m (number-split xs mid size m l e) fits)

-- a number has one count of bits
HasBits-le : (n a b : ℕ) → HasBits n a → HasBits n b → a ≤ b
HasBits-le n a b h k =
    let pos : 0 < 2 = omega arith in
    elim (cases_lt b a) [
      | inl l ↦ absurd (omega (arith, h.0, k.1, let more : 2 ^ b ≤ 2 ^ (a - 1) = pow-le-pow_right pos (omega arith) in more))
      | inr l ↦ omega arith
    ]

pub HasBits-one : (n a b : ℕ) → HasBits n a → HasBits n b → a ≡ b
HasBits-one n a b h k = let up = HasBits-le n a b h k in let down = HasBits-le n b a k h in omega arith

-- the bits of the first octet, and 8 for each other
pub has_bits : (xs : List ℕ) (j bits : ℕ) → AreOctets xs → 0 < length xs → 2 ^ j ≤ get_or xs 0 0 → get_or xs 0 0 < 2 ^ suc j
    → bits ≡ 8 * (length xs - 1) + suc j → HasBits (number xs) bits
has_bits [] j bits h some a b e = absurd (omega arith)
has_bits (x ∷ xs) j bits h some a b e =
    let rest = length xs in
    let unit : 256 ^ rest ≡ 2 ^ (8 * rest) = pow-pow 2 8 rest in
    let low : 2 ^ j * 256 ^ rest ≤ x * 256 ^ rest = mul-le-mul_right (256 ^ rest) a in
    let high : (x + 1) * 256 ^ rest ≤ 2 ^ suc j * 256 ^ rest = mul-le-mul_right (256 ^ rest) (omega arith) in
    let low-is : 2 ^ (bits - 1) ≡ 2 ^ j * 256 ^ rest = ap (λ t. 2 ^ t) (let p : bits - 1 ≡ j + 8 * rest = omega arith in p) ∙ pow-add 2 j (8 * rest) ∙ ap (λ t. 2 ^ j * t) (sym unit) in
    let high-is : 2 ^ bits ≡ 2 ^ suc j * 256 ^ rest = ap (λ t. 2 ^ t) (let p : bits ≡ suc j + 8 * rest = omega arith in p) ∙ pow-add 2 (suc j) (8 * rest) ∙ ap (λ t. 2 ^ suc j * t) (sym unit) in
    (omega (arith, low, low-is, number-least x xs), omega (arith, high, high-is, number-below x xs (λ i. h (suc i))))
