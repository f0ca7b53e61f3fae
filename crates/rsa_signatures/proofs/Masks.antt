-- The mask of RSASSA-PSS, octet by octet.
use Rattle.std.proofs.Common.{◌≡◌, ℕ, zero, suc, ◌+◌, ◌-◌, ◌*◌, ◌/◌, ◌%◌, ◌^◌, ◌<◌, ◌≤◌, List, [], ◌∷◌, ◌++◌, length, take, get_or, set, bit_xor, refl, ◌∙◌, arith, inl, inr, length-append, length-take-le, lt_of_lt_of_le}
use Rattle.std.proofs.lemmas.Bool.{cases_lt}
use Rattle.std.proofs.lemmas.List.{get_or_append_left, get_or-append_right, get_or-take}
use Rattle.hash_functions.specs.declared.hash_function.HashFunction.{HashFunction}
use Rattle.hash_functions.specs.declared.hash_function.HashFunction.TheVariants.{Sha256, Sha384, Sha512}
use Rattle.hash_functions.specs.HashFunction.{digest_of, hash_size}
use Rattle.rsa_signatures.specs.Octets.{octets_of}
use Rattle.rsa_signatures.specs.Pss.{mask_blocks, mgf1, exclusive_or, with_zero_bits}
use Rattle.hash_functions.proofs.Digests.{length-digest_of}

-- octet k of a mask
abbrev pub mask_octet : HashFunction → List ℕ → ℕ → ℕ
mask_octet hash seed k = get_or (digest_of hash (seed ++ octets_of 4 (k / hash_size hash))) (k % hash_size hash) 0

length-mask_blocks : (hash : HashFunction) (seed : List ℕ) (n : ℕ) → length (mask_blocks hash seed n) ≡ n * hash_size hash
unfolding mask_blocks
length-mask_blocks hash seed zero = omega arith
length-mask_blocks hash seed (suc n) =
    omega (arith, length-append (mask_blocks hash seed n) (digest_of hash (seed ++ octets_of 4 n)), length-mask_blocks hash seed n, length-digest_of hash (seed ++ octets_of 4 n))

-- the place of an octet in block n
place : (hash : HashFunction) (n k : ℕ) → n * hash_size hash ≤ k → k < suc n * hash_size hash → (n ≡ k / hash_size hash) × (k - n * hash_size hash ≡ k % hash_size hash)
place Sha256 n k g l = (omega arith, omega arith)
place Sha384 n k g l = (omega arith, omega arith)
place Sha512 n k g l = (omega arith, omega arith)

mask_blocks-at : (hash : HashFunction) (seed : List ℕ) (n k : ℕ) → k < n * hash_size hash → get_or (mask_blocks hash seed n) k 0 ≡ mask_octet hash seed k
unfolding mask_blocks
mask_blocks-at hash seed zero k l = absurd (omega arith)
mask_blocks-at hash seed (suc n) k l =
    let blocks = mask_blocks hash seed n in
    let all : length blocks ≡ n * hash_size hash = length-mask_blocks hash seed n in
    elim (cases_lt k (n * hash_size hash)) [
      | inl h ↦ get_or_append_left blocks (digest_of hash (seed ++ octets_of 4 n)) 0 k (omega arith) ∙ mask_blocks-at hash seed n k h
      | inr g ↦
          let p = place hash n k g l in
          let same : get_or (digest_of hash (seed ++ octets_of 4 n)) (k - n * hash_size hash) 0 ≡ mask_octet hash seed k =
          λ j. get_or (digest_of hash (seed ++ octets_of 4 (p.0 j))) (p.1 j) 0 in
          get_or-append_right blocks (digest_of hash (seed ++ octets_of 4 n)) (n * hash_size hash) k 0 all g ∙ same
    ]

enough_blocks : (hash : HashFunction) (size : ℕ) → size ≤ (size + hash_size hash - 1) / hash_size hash * hash_size hash
enough_blocks Sha256 size = omega arith
enough_blocks Sha384 size = omega arith
enough_blocks Sha512 size = omega arith

pub length-mgf1 : (hash : HashFunction) (seed : List ℕ) (size : ℕ) → length (mgf1 hash seed size) ≡ size
length-mgf1 hash seed size =
    let count = (size + hash_size hash - 1) / hash_size hash in
    length-take-le size (mask_blocks hash seed count) (omega (arith, length-mask_blocks hash seed count, enough_blocks hash size))

pub mgf1-at : (hash : HashFunction) (seed : List ℕ) (size k : ℕ) → k < size → get_or (mgf1 hash seed size) k 0 ≡ mask_octet hash seed k
mgf1-at hash seed size k l =
    let count = (size + hash_size hash - 1) / hash_size hash in
    get_or-take size (mask_blocks hash seed count) k 0 l ∙ mask_blocks-at hash seed count k (lt_of_lt_of_le l (enough_blocks hash size))

pub same_block : (hash : HashFunction) (i : ℕ) → ((i + 1) % hash_size hash ≡ 0 → ⊥) → i / hash_size hash ≡ (i + 1) / hash_size hash
same_block Sha256 i h = omega (arith, h)
same_block Sha384 i h = omega (arith, h)
same_block Sha512 i h = omega (arith, h)

pub xored_is : (ys xs ms : List ℕ) → length ys ≡ length xs → length xs ≤ length ms
    → ((k : ℕ) → k < length xs → get_or ys k 0 ≡ bit_xor (get_or xs k 0) (get_or ms k 0)) → ys ≡ exclusive_or xs ms
unfolding exclusive_or
xored_is [] [] ms e l h = refl
xored_is [] (x ∷ xs) ms e l h = absurd (omega arith)
xored_is (y ∷ ys) [] ms e l h = absurd (omega arith)
xored_is (y ∷ ys) (x ∷ xs) [] e l h = absurd (omega arith)
xored_is (y ∷ ys) (x ∷ xs) (m ∷ ms) e l h =
    let first : y ≡ bit_xor x m = h 0 (omega arith) in
    let rest = xored_is ys xs ms (omega arith) (omega arith) (λ k p. h (suc k) (omega arith)) in
    λ j. first j ∷ rest j

pub first_bits : (unused size : ℕ) (xs : List ℕ) → 0 < size → 0 < length xs
    → take size (set xs 0 (get_or xs 0 0 % 2 ^ (8 - unused))) ≡ with_zero_bits unused (take size xs)
first_bits unused size [] s l = absurd (omega arith)
first_bits unused zero (x ∷ xs) s l = absurd (omega arith)
first_bits unused (suc size) (x ∷ xs) s l = refl
