-- A plus in a form stands for a space. A name with neither is found before that is decoded.
use Rattle.std.proofs.Common.{◌≡◌, ℕ, ◌+◌, ◌*◌, ◌==◌, ◌&&◌, Bool, true, false, List, [], ◌∷◌, map, cond, refl, sym, ap, ◌∙◌, ⊎_elim, subst, IsTrue, bytes_eq, nat_lt, arith}
use Rattle.std.specs.List.{list_all}
use Rattle.std.specs.Char.{digit_value}
use Rattle.std.proofs.lemmas.Bool.{cond-true, cond-false, cases_eq, ne_eqb, false≢true}
use Rattle.std.proofs.lemmas.Bool.Decides.{nat_tests}
use Rattle.percent_encoding.specs.Percent.{is_escape, percent_decode}
use Rattle.form_urlencoded.specs.Form.{plus_to_space, decode}
use Rattle.oauth2_client_assertions.specs.private.Names.{is_no_space}

-- ---- a plus is no part of an escape, and neither is a space

digit-plus : (b : ℕ) → digit_value (plus_to_space b) ≡ digit_value b
digit-plus b =
    ⊎_elim
    (λ is. subst (λ x. digit_value (plus_to_space x) ≡ digit_value x) (sym is) refl)
    (λ other. ap digit_value (cond-false (b == 43) 32 b (ne_eqb b 43 other)))
    (cases_eq b 43)

percent-plus : (b : ℕ) → (plus_to_space b == 37) ≡ (b == 37)
percent-plus b =
    ⊎_elim
    (λ is. subst (λ x. (plus_to_space x == 37) ≡ (x == 37)) (sym is) refl)
    (λ other. ap (λ x. x == 37) (cond-false (b == 43) 32 b (ne_eqb b 43 other)))
    (cases_eq b 43)

twice : (b : ℕ) → plus_to_space (plus_to_space b) ≡ plus_to_space b
twice b =
    ⊎_elim
    (λ is. subst (λ x. plus_to_space (plus_to_space x) ≡ plus_to_space x) (sym is) refl)
    (λ other. ap plus_to_space (cond-false (b == 43) 32 b (ne_eqb b 43 other)))
    (cases_eq b 43)

escape-plus : (b high low : ℕ) → is_escape (plus_to_space b) (plus_to_space high) (plus_to_space low) ≡ is_escape b high low
escape-plus b high low =
    ap (λ t. t && nat_lt (digit_value (plus_to_space high)) 16 && nat_lt (digit_value (plus_to_space low)) 16) (percent-plus b)
    ∙ ap (λ d. b == 37 && nat_lt d 16 && nat_lt (digit_value (plus_to_space low)) 16) (digit-plus high)
    ∙ ap (λ d. b == 37 && nat_lt (digit_value high) 16 && nat_lt d 16) (digit-plus low)

-- ---- a text decodes to the same, but for what is a plus or a space

chosen : (s t : Bool) (x y other_x other_y : List ℕ) → s ≡ t → map plus_to_space x ≡ map plus_to_space other_x
    → map plus_to_space y ≡ map plus_to_space other_y → map plus_to_space (cond s x y) ≡ map plus_to_space (cond t other_x other_y)
chosen s true x y other_x other_y is first second = ap (map plus_to_space) (cond-true s x y is) ∙ first
chosen s false x y other_x other_y is first second = ap (map plus_to_space) (cond-false s x y is) ∙ second

pub decoded-plus : (bs : List ℕ) → map plus_to_space (percent_decode (map plus_to_space bs)) ≡ map plus_to_space (percent_decode bs)
unfolding percent_decode
decoded-plus [] = refl
decoded-plus (b ∷ []) = ap (λ x. x ∷ []) (twice b)
decoded-plus (b ∷ c ∷ []) = ap (λ x. x ∷ plus_to_space (plus_to_space c) ∷ []) (twice b) ∙ ap (λ x. plus_to_space b ∷ x ∷ []) (twice c)
decoded-plus (b ∷ high ∷ low ∷ rest) =
    let value : 16 * digit_value (plus_to_space high) + digit_value (plus_to_space low) ≡ 16 * digit_value high + digit_value low =
    ap (λ d. 16 * d + digit_value (plus_to_space low)) (digit-plus high) ∙ ap (λ d. 16 * digit_value high + d) (digit-plus low) in
    chosen (is_escape (plus_to_space b) (plus_to_space high) (plus_to_space low)) (is_escape b high low)
    ((16 * digit_value (plus_to_space high) + digit_value (plus_to_space low)) ∷ percent_decode (map plus_to_space rest))
    (plus_to_space b ∷ percent_decode (map plus_to_space (high ∷ low ∷ rest)))
    ((16 * digit_value high + digit_value low) ∷ percent_decode rest)
    (b ∷ percent_decode (high ∷ low ∷ rest))
    (escape-plus b high low)
    (ap (λ x. plus_to_space x ∷ map plus_to_space (percent_decode (map plus_to_space rest))) value
    ∙ ap (λ xs. plus_to_space (16 * digit_value high + digit_value low) ∷ xs) (decoded-plus rest))
    (ap (λ x. x ∷ map plus_to_space (percent_decode (map plus_to_space (high ∷ low ∷ rest)))) (twice b)
    ∙ ap (λ xs. plus_to_space b ∷ xs) (decoded-plus (high ∷ low ∷ rest)))

-- ---- a name with neither is the same as no other text

eq-plus : (b m : ℕ) → is_no_space m ≡ true → (plus_to_space b == m) ≡ (b == m)
eq-plus b m plain = grind (arith, nat_tests)

front : (s t : Bool) → (s && t) ≡ true → s ≡ true
front true t both = refl
front false t both = both

back : (s t : Bool) → (s && t) ≡ true → t ≡ true
back true t both = both
back false t both = absurd (false≢true both)

bytes_eq-plus : (xs ms : List ℕ) → list_all is_no_space ms ≡ true → bytes_eq (map plus_to_space xs) ms ≡ bytes_eq xs ms
bytes_eq-plus [] [] plain = refl
bytes_eq-plus [] (m ∷ ms) plain = refl
bytes_eq-plus (x ∷ xs) [] plain = refl
bytes_eq-plus (x ∷ xs) (m ∷ ms) plain =
    ap (λ t. t && bytes_eq (map plus_to_space xs) ms) (eq-plus x m (front _ _ plain))
    ∙ ap (λ t. (x == m) && t) (bytes_eq-plus xs ms (back _ _ plain))

pub same_without_spaces : (bs name : List ℕ) → IsTrue (list_all is_no_space name) → bytes_eq (decode bs) name ≡ bytes_eq (percent_decode bs) name
same_without_spaces bs name plain =
    sym (bytes_eq-plus (percent_decode (map plus_to_space bs)) name plain)
    ∙ ap (λ xs. bytes_eq xs name) (decoded-plus bs)
    ∙ bytes_eq-plus (percent_decode bs) name plain
