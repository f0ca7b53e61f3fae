-- The padded key, and the comparison.
use Rattle.std.proofs.Common.{◌≡◌, ℕ, ◌+◌, ◌-◌, ◌%◌, ◌<◌, ◌≤◌, List, ◌++◌, length, map, replicate, take, get_or, bit_xor, bit_or, sym, ap, ◌∙◌, arith, inl, inr, length-append}
use Rattle.std.proofs.lemmas.Bool.{cases_lt}
use Rattle.std.proofs.lemmas.List.{ext_get_or, get_or-map, get_or_append_left, get_or-append-add, get_or-replicate, length-replicate, length-map, take-map, take-replicate}
use Rattle.std.proofs.Math.Seq.{take-append-add}
use Rattle.std.proofs.lemmas.Nat.{le_or_l, le_or_r}
use Rattle.std.proofs.lemmas.Nat.Bits.{same_from_bits, bit_at_xor, bit_at-zero, bit_at-lt}
use Rattle.std.specs.Int.{bit_at}
use Rattle.std.specs.Int.Bits.{xor_zero_l, xor_self}

-- a block of so many octets, of which the first are the key's and the others zeros, each with w added
pub pad_is : (k : List ℕ) (w size : ℕ) (p : List ℕ) → length k ≤ size → length p ≡ size
    → ((i : ℕ) → i < length k → get_or p i 0 ≡ bit_xor (get_or k i 0) w) → ((i : ℕ) → length k ≤ i → i < size → get_or p i 0 ≡ w)
    → p ≡ map (λ b. bit_xor b w) (k ++ replicate (size - length k) 0)
pad_is k w size p h l done left =
    let rest : List ℕ = replicate (size - length k) 0 in
    let f : ℕ → ℕ = λ b. bit_xor b w in
    let whole : length (k ++ rest) ≡ size = omega (arith, length-append k rest, length-replicate {A = ℕ} (size - length k) 0) in
    ext_get_or 0 p (map f (k ++ rest)) (l ∙ sym whole ∙ sym (length-map (k ++ rest) f)) (λ i below.
    let within : i < length (k ++ rest) = omega arith in
    elim (cases_lt i (length k)) [
      | inl lt ↦ done i lt ∙ ap f (sym (get_or_append_left k rest 0 i lt)) ∙ sym (get_or-map f (k ++ rest) i 0 0 within)
      | inr ge ↦
          let at : length k + (i - length k) ≡ i = omega arith in
          let zero_at : get_or (k ++ rest) i 0 ≡ 0 =
          ap (λ t. get_or (k ++ rest) t 0) (sym at) ∙ get_or-append-add k rest (i - length k) 0 ∙ get_or-replicate (size - length k) (i - length k) 0 0 (omega arith) in
          left i ge (omega arith) ∙ sym (xor_zero_l w) ∙ ap f (sym zero_at) ∙ sym (get_or-map f (k ++ rest) i 0 0 within)
    ])

xor_zero_same : (a b : ℕ) → bit_xor a b ≡ 0 → a ≡ b
xor_zero_same a b h = same_from_bits a b (λ i.
    let e : (bit_at a i + bit_at b i) % 2 ≡ 0 = sym (bit_at_xor a b i) ∙ ap (λ t. bit_at t i) h ∙ bit_at-zero i in
    omega (arith, bit_at-lt a i, bit_at-lt b i, e))

pub or_zero : (d a b : ℕ) → bit_or d (bit_xor a b) ≡ 0 → (d ≡ 0) × (a ≡ b)
or_zero d a b h =
    let low : d ≡ 0 = omega (arith, le_or_l d (bit_xor a b)) in
    let high : bit_xor a b ≡ 0 = omega (arith, le_or_r d (bit_xor a b)) in
    (low, xor_zero_same a b high)

pub or_same : (d a b : ℕ) → d ≡ 0 → a ≡ b → bit_or d (bit_xor a b) ≡ 0
or_same d a b e f = ap (λ t. bit_or t (bit_xor a b)) e ∙ ap (λ t. bit_or 0 (bit_xor t b)) f ∙ ap (λ t. bit_or 0 t) (xor_self b)

-- the first octets of a longer block
pub take-padded : (k : List ℕ) (w size most : ℕ) → length k ≤ size → size ≤ most
    → take size (map (λ b. bit_xor b w) (k ++ replicate (most - length k) 0)) ≡ map (λ b. bit_xor b w) (k ++ replicate (size - length k) 0)
take-padded k w size most h m =
    let f : ℕ → ℕ = λ b. bit_xor b w in
    let rest : List ℕ = replicate (most - length k) 0 in
    let n : ℕ = size - length k in
    let at : size ≡ length k + n = omega arith in
    take-map f size (k ++ rest)
    ∙ ap (λ t. map f (take t (k ++ rest))) at
    ∙ ap (λ xs. map f xs) (take-append-add k rest n)
    ∙ ap (λ xs. map f (k ++ xs)) (take-replicate n (most - length k) 0 (omega arith))
