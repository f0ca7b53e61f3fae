-- What an encoded text decodes to, from its first byte on.
use Rattle.std.proofs.Common.{◌≡◌, ◌≢◌, ℕ, ◌+◌, ◌*◌, ◌<◌, ◌≤◌, List, [], ◌∷◌, length, get_or, drop, Bool, true, false, cond, ◌==◌, bytes_eq, map, Option, None, Some, is_none, MatchOption, refl, ap, subst, ◌∙◌, arith}
use Rattle.std.specs.Borrow.{Bor}
use Rattle.std.specs.Char.{digit_value}
use Rattle.std.proofs.lemmas.Bool.{eqb-true}
use Rattle.percent_encoding.specs.Percent.{percent_decode}
use Rattle.percent_encoding.proofs.PercentLemmas.{KeepsFirst_from_no_escape, percent_decode_escape, percent_decode_not_percent, percent_decode-nil}
use Rattle.form_urlencoded.specs.Form.{decode, plus_to_space}

pub decode-plus : (rest : List ℕ) → decode (43 ∷ rest) ≡ 32 ∷ decode rest
decode-plus rest = percent_decode_not_percent 32 (map plus_to_space rest) (λ same. cc)

-- a byte that is no `+` stays
other_of : (is_plus : Bool) (b : ℕ) → is_plus ≡ false → cond is_plus 32 b ≡ b
other_of false b e = refl
other_of true b e = cc

not_plus : (is_plus : Bool) (b : ℕ) → (b == 43) ≡ is_plus → b ≢ 43 → is_plus ≡ false
not_plus false b e other = refl
not_plus true b e other = absurd (other (eqb-true b 43 e))

stays : (b : ℕ) → b ≢ 43 → plus_to_space b ≡ b
stays b other = other_of (b == 43) b (not_plus (b == 43) b refl other)

pub decode-other : (b : ℕ) (rest : List ℕ) → b ≢ 43 → b ≢ 37 → decode (b ∷ rest) ≡ b ∷ decode rest
decode-other b rest plus percent =
    ap (λ x. percent_decode (x ∷ map plus_to_space rest)) (stays b plus) ∙ percent_decode_not_percent b (map plus_to_space rest) percent

-- a digit is no `+`, and no space is one
digit-stays : (b : ℕ) → digit_value b < 16 → plus_to_space b ≡ b
digit-stays b digit = stays b (λ plus. absurd (let no : digit_value 43 < 16 = subst (λ x. digit_value x < 16) plus digit in omega (arith, no)))

digit_back : (is_plus : Bool) (b : ℕ) → digit_value (cond is_plus 32 b) < 16 → digit_value b < 16
digit_back false b digit = digit
digit_back true b digit = absurd (omega (arith, digit))

digit-was : (b : ℕ) → digit_value (plus_to_space b) < 16 → digit_value b < 16
digit-was b digit = digit_back (b == 43) b digit

-- an escape at the front is decoded
pub decode-escape : (high low : ℕ) (rest : List ℕ) → digit_value high < 16 → digit_value low < 16 → decode (37 ∷ high ∷ low ∷ rest) ≡ (16 * digit_value high + digit_value low) ∷ decode rest
decode-escape high low rest first second =
    ap (λ x. percent_decode (37 ∷ x ∷ plus_to_space low ∷ map plus_to_space rest)) (digit-stays high first)
    ∙ ap (λ x. percent_decode (37 ∷ high ∷ x ∷ map plus_to_space rest)) (digit-stays low second)
    ∙ percent_decode_escape 37 high low (map plus_to_space rest) refl first second

pub decode-at_escape : (bytes : List ℕ) → 2 ≤ length bytes → digit_value (get_or bytes 0 0) < 16 → digit_value (get_or bytes 1 0) < 16 → decode (37 ∷ bytes) ≡ (16 * digit_value (get_or bytes 0 0) + digit_value (get_or bytes 1 0)) ∷ decode (drop 2 bytes)
decode-at_escape [] long = absurd (omega (arith, long))
decode-at_escape (b ∷ []) long = absurd (omega (arith, long))
decode-at_escape (high ∷ low ∷ rest) long = decode-escape high low rest

-- and a `%` that begins none stays
pub decode-percent : (bytes : List ℕ) → (2 ≤ length bytes → digit_value (get_or bytes 0 0) < 16 → digit_value (get_or bytes 1 0) < 16 → ⊥) → decode (37 ∷ bytes) ≡ 37 ∷ decode bytes
decode-percent [] never = KeepsFirst_from_no_escape (37 ∷ []) (λ long percent high low. absurd (omega (arith, long)))
decode-percent (b ∷ []) never = KeepsFirst_from_no_escape (37 ∷ plus_to_space b ∷ []) (λ long percent high low. absurd (omega (arith, long)))
decode-percent (h ∷ l ∷ rest) never =
    KeepsFirst_from_no_escape (37 ∷ plus_to_space h ∷ plus_to_space l ∷ map plus_to_space rest)
    (λ long percent high low. never (omega arith) (digit-was h high) (digit-was l low))

-- ---- two texts, from the first byte that each decodes to

nil_of : (bytes : List ℕ) → bytes ≡ [] → decode bytes ≡ []
nil_of bytes e = ap decode e ∙ percent_decode-nil

pub shorter_second : (a b x : List ℕ) (c : ℕ) → decode a ≡ c ∷ decode x → b ≡ [] → false ≡ bytes_eq (decode a) (decode b)
shorter_second a b x c first e = rw (first, nil_of b e) refl

pub both_end : (a b : List ℕ) → a ≡ [] → b ≡ [] → true ≡ bytes_eq (decode a) (decode b)
both_end a b e f = rw (nil_of a e, nil_of b f) refl

pub shorter_first : (a b y : List ℕ) (d : ℕ) → a ≡ [] → decode b ≡ d ∷ decode y → false ≡ bytes_eq (decode a) (decode b)
shorter_first a b y d e second = rw (nil_of a e, second) refl

pub ends_as : (a b : List ℕ) (told : Option (ℕ × Bor (List ℕ))) → a ≡ [] → MatchOption told (b ≡ []) (λ first. decode b ≡ first.0 ∷ decode first.1.now) → is_none told ≡ bytes_eq (decode a) (decode b)
ends_as a b None e f = both_end a b e f
ends_as a b (Some first) e f = shorter_first a b first.1.now first.0 e f
