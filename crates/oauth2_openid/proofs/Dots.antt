-- The three parts of a text stand between its dots.
use Rattle.std.proofs.Common.{◌≡◌, ◌≢◌, ℕ, nat_lt, List, [], ◌∷◌, ◌++◌, length, All, Bool, true, false, cond, is_some, ◌↔◌, Option, Some, None, MatchOption, refl, sym, ap, ◌∙◌, arith}
use borrow.Author.Tests.{ltb-true, ltb-false, eqb-true, eqb-false}
use Rattle.std.specs.List.{slice_split, onto_first, position_or_len, before_first, after_first, join_with_byte}
use Rattle.std.proofs.lemmas.List.Elements.{All-cons, All-nil}
use Rattle.std.proofs.lemmas.List.Splits.{slice_split_none, slice_split_first, slice_split_at, join_with_byte-slice_split}
use Rattle.std.proofs.lemmas.List.Sums.{fails_before_first}
use Rattle.oauth2_openid.specs.Token.{is_dot, Parts, token_parts, of_pieces, three_parts, HasNoDot, AreParts}
use Rattle.oauth2_openid.specs.private.Dots.{split_dot, last_two, after_header}

-- ---- cut at one dot after another

abbrev Cut : List ℕ → Option (List ℕ × List ℕ) → Type 0
Cut s o = MatchOption o (slice_split is_dot s ≡ s ∷ []) (λ two. slice_split is_dot s ≡ two.0 ∷ slice_split is_dot two.1)

cut_at : (s : List ℕ) (b : Bool) → nat_lt (position_or_len is_dot s) (length s) ≡ b → Cut s (cond b (Some (before_first is_dot s, after_first is_dot s)) None)
cut_at s true e = slice_split_first is_dot s 0 (ltb-true (position_or_len is_dot s) (length s) e)
cut_at s false e = slice_split_none is_dot s (λ k d less. fails_before_first is_dot s k d (omega (arith, less, ltb-false (position_or_len is_dot s) (length s) e)))

cut : (s : List ℕ) → Cut s (split_dot s)
cut s = cut_at s (nat_lt (position_or_len is_dot s) (length s)) refl

-- more than three pieces
too_many : (h p s : List ℕ) (rest : List (List ℕ)) (b : List ℕ) (o : Option (List ℕ × List ℕ)) → Cut b o → rest ≡ slice_split is_dot b → None ≡ of_pieces (h ∷ p ∷ s ∷ rest)
too_many h p s [] b None c e = absurd (cc (c, e))
too_many h p s [] b (Some two) c e = absurd (cc (c, e))
too_many h p s (x ∷ xs) b o c e = refl

last_at : (h p s : List ℕ) (o : Option (List ℕ × List ℕ)) → Cut s o → cond (is_some o) None (Some (token_parts h p s)) ≡ of_pieces (h ∷ p ∷ slice_split is_dot s)
last_at h p s None c = rw c refl
last_at h p s (Some two) c = rw c (too_many h p two.0 (slice_split is_dot two.1) two.1 (split_dot two.1) (cut two.1) refl)

two_at : (h s : List ℕ) (o : Option (List ℕ × List ℕ)) → Cut s o → last_two h o ≡ of_pieces (h ∷ slice_split is_dot s)
two_at h s None c = rw c refl
two_at h s (Some two) c = rw c (last_at h two.0 two.1 (split_dot two.1) (cut two.1))

three_at : (s : List ℕ) (o : Option (List ℕ × List ℕ)) → Cut s o → after_header o ≡ three_parts s
three_at s None c = rw c refl
three_at s (Some two) c = rw c (two_at two.0 two.1 (split_dot two.1) (cut two.1))

pub in_turn : (s : List ℕ) → after_header (split_dot s) ≡ three_parts s
in_turn s = three_at s (split_dot s) (cut s)

-- ---- the law

abbrev Each : (List ℕ → Type 0) → List (List ℕ) → Type 0
Each P [] = Unit {0}
Each P (x ∷ xs) = P x × Each P xs

lack_at : (b : ℕ) (t : Bool) (pieces : List (List ℕ)) → is_dot b ≡ t → Each HasNoDot pieces → Each HasNoDot (cond t ([] ∷ pieces) (onto_first b pieces))
lack_at b true pieces e h = (All-nil (λ c. c ≢ 46), h)
lack_at b false [] e h = (All-cons (λ c. c ≢ 46) b [] (eqb-false b 46 e) (All-nil (λ c. c ≢ 46)), tt)
lack_at b false (x ∷ xs) e h = (All-cons (λ c. c ≢ 46) b x (eqb-false b 46 e) h.0, h.1)

-- no piece has a dot
lack : (s : List ℕ) → Each HasNoDot (slice_split is_dot s)
lack [] = (All-nil (λ c. c ≢ 46), tt)
lack (b ∷ s) = lack_at b (is_dot b) (slice_split is_dot s) refl (lack s)

three_of : (pieces : List (List ℕ)) (p : Parts) → of_pieces pieces ≡ Some p → pieces ≡ p.header ∷ p.payload ∷ p.signature ∷ []
three_of [] p e = absurd (cc)
three_of (h ∷ []) p e = absurd (cc)
three_of (h ∷ q ∷ []) p e = absurd (cc)
three_of (h ∷ q ∷ s ∷ []) p e = cc
three_of (h ∷ q ∷ s ∷ x ∷ xs) p e = absurd (cc)

lack_of : (pieces : List (List ℕ)) (p : Parts) → pieces ≡ p.header ∷ p.payload ∷ p.signature ∷ [] → Each HasNoDot pieces → HasNoDot p.header × HasNoDot p.payload × HasNoDot p.signature
lack_of pieces p e h = let l : Each HasNoDot (p.header ∷ p.payload ∷ p.signature ∷ []) = rw e at h in (l.0, l.1.0, l.1.1.0)

are_parts : (p : Parts) (text : List ℕ) → three_parts text ≡ Some p → AreParts p text
are_parts p text e =
    let pieces = three_of (slice_split is_dot text) p e in
    let none = lack_of (slice_split is_dot text) p pieces (lack text) in
    record { joined = sym (join_with_byte-slice_split 46 text) ∙ ap (join_with_byte 46) pieces; header = none.0; payload = none.1; signature = none.2 }

no_match : (c : ℕ) (t : Bool) → is_dot c ≡ t → c ≢ 46 → t ≡ false
no_match c true e h = absurd (h (eqb-true c 46 e))
no_match c false e h = refl

no_dot : (s : List ℕ) → HasNoDot s → All (λ c. is_dot c ≡ false) s
no_dot s h = λ k d less. no_match _ _ refl (h k d less)

from_parts : (p : Parts) (text : List ℕ) → AreParts p text → three_parts text ≡ Some p
from_parts p text h =
    let last : slice_split is_dot p.signature ≡ p.signature ∷ [] = slice_split_none is_dot p.signature (no_dot p.signature h.signature) in
    let two = slice_split_at is_dot p.payload 46 p.signature (no_dot p.payload h.payload) refl ∙ ap (λ r. p.payload ∷ r) last in
    let three = slice_split_at is_dot p.header 46 (p.payload ++ 46 ∷ p.signature) (no_dot p.header h.header) refl ∙ ap (λ r. p.header ∷ r) two in
    ap of_pieces (ap (slice_split is_dot) h.joined ∙ three)

pub are_between_dots : (text : List ℕ) (p : Parts) → three_parts text ≡ Some p ↔ AreParts p text
are_between_dots text p = (are_parts p text, from_parts p text)
