-- Texts of visible characters, and what decodes to them.
use Rattle.std.proofs.Common.{◌≡◌, ℕ, ◌*◌, ◌+◌, ◌<◌, List, [], ◌∷◌, ◌++◌, length, take, Bool, true, false, cond, ◌==◌, ◌&&◌, ◌||◌, map, bytes_eq, subst, ap, sym, refl, ◌∙◌, arith}
use Rattle.std.specs.Char.{is_digit, digit_value, is_ascii_graphic}
use Rattle.std.specs.List.{list_any}
use Rattle.std.specs.Str.{IsAscii}
use Rattle.std.specs.Str.Lossy.{utf8_lossy, utf8_valid_len, after_first_chunk, replacement_bytes}
use Rattle.std.proofs.lemmas.Bool.{eqb-true, eqb-false}
use Rattle.std.proofs.lemmas.Bool.Decides.{nat_tests, same_from_decides}
use Rattle.std.proofs.lemmas.Grind.{common_steps}
use Rattle.std.proofs.lemmas.Slice.Eq.{bytes_eq-Decides}
use Rattle.std.proofs.lemmas.Str.{IsUtf8-from_ascii, utf8_lossy-IsUtf8, utf8_lossy_empty, utf8_lossy_step, utf8_lossy_last_chunk}
use Rattle.std.proofs.lemmas.List.{append-nil}
use Rattle.std.proofs.lemmas.Str.Ascii.{IsAscii-cons}
use Rattle.percent_encoding.specs.Percent.{percent_decode, is_escape}
use Rattle.form_urlencoded.specs.Form.{decode, plus_to_space}
use Rattle.std.specs.Prelude.{if◌then◌else◌, Some, None}
use Rattle.sha2.specs.Sha256.{sha256}
use Rattle.oauth2_redirect.specs.Query.{is_visible}

and_false : (b : Bool) → (b && false) ≡ false
and_false true = refl
and_false false = refl

-- a `+` becomes a space, which is not visible
plus_first : (is_plus : Bool) (b : ℕ) (bytes : List ℕ) → (list_any (λ y. y == 43) bytes ≡ true → is_visible (map plus_to_space bytes) ≡ false)
    → (is_plus || list_any (λ y. y == 43) bytes) ≡ true → (is_ascii_graphic (cond is_plus 32 b) && is_visible (map plus_to_space bytes)) ≡ false
plus_first true b bytes later any = refl
plus_first false b bytes later any = rw (later any) (and_false (is_ascii_graphic b))

plus_unseen : (bytes : List ℕ) → list_any (λ y. y == 43) bytes ≡ true → is_visible (map plus_to_space bytes) ≡ false
plus_unseen [] any = cc
plus_unseen (b ∷ bytes) any = plus_first (b == 43) b bytes (plus_unseen bytes) any

-- digits are visible
digit_seen : (c : ℕ) → is_digit c 16 ≡ true → is_ascii_graphic c ≡ true
digit_seen c digit = grind (arith, common_steps, nat_tests)

parts : (p h l : Bool) → (p && h && l) ≡ true → (p ≡ true) × (h ≡ true) × (l ≡ true)
parts true true true e = (refl, refl, refl)
parts true true false e = cc
parts true false l e = cc
parts false h l e = cc

-- what is not visible stays
escape_keeps : (b high low : ℕ) (rest : List ℕ) (x : ℕ) → is_escape b high low ≡ true → (is_visible rest ≡ false → is_visible (percent_decode rest) ≡ false)
    → is_visible (b ∷ high ∷ low ∷ rest) ≡ false → is_visible (x ∷ percent_decode rest) ≡ false
escape_keeps b high low rest x is later unseen =
    let each = parts (b == 37) (is_digit high 16) (is_digit low 16) is in
    let first : is_ascii_graphic b ≡ true = subst (λ n. is_ascii_graphic n ≡ true) (sym (eqb-true b 37 each.0)) refl in
    let left : is_visible rest ≡ false = rw (first, digit_seen high each.1, digit_seen low each.2) at unseen in
    rw (later left) (and_false (is_ascii_graphic x))

other_keeps : (first later decoded : Bool) → (later ≡ false → decoded ≡ false) → (first && later) ≡ false → (first && decoded) ≡ false
other_keeps false later decoded keeps unseen = refl
other_keeps true later decoded keeps unseen = keeps unseen

by_escape : (e : Bool) (b high low x : ℕ) (rest : List ℕ) → is_escape b high low ≡ e → (is_visible rest ≡ false → is_visible (percent_decode rest) ≡ false)
    → (is_visible (high ∷ low ∷ rest) ≡ false → is_visible (percent_decode (high ∷ low ∷ rest)) ≡ false)
    → is_visible (b ∷ high ∷ low ∷ rest) ≡ false → is_visible (cond e (x ∷ percent_decode rest) (b ∷ percent_decode (high ∷ low ∷ rest))) ≡ false
by_escape true b high low x rest is later inner unseen = escape_keeps b high low rest x is later unseen
by_escape false b high low x rest is later inner unseen = other_keeps (is_ascii_graphic b) _ _ inner unseen

unseen_stays : (bytes : List ℕ) → is_visible bytes ≡ false → is_visible (percent_decode bytes) ≡ false
unfolding percent_decode
unseen_stays [] unseen = unseen
unseen_stays (b ∷ []) unseen = unseen
unseen_stays (b ∷ c ∷ []) unseen = unseen
unseen_stays (b ∷ high ∷ low ∷ rest) unseen =
    by_escape (is_escape b high low) b high low (16 * digit_value high + digit_value low) rest refl (unseen_stays rest) (unseen_stays (high ∷ low ∷ rest)) unseen

-- what has a `+` decodes to no visible text
pub plus-unseen : (encoded : List ℕ) → list_any (λ y. y == 43) encoded ≡ true → is_visible (decode encoded) ≡ false
plus-unseen encoded plus = unseen_stays (map plus_to_space encoded) (plus_unseen encoded plus)

not_equal : (same : Bool) (bytes text : List ℕ) → bytes_eq bytes text ≡ same → is_visible text ≡ true → is_visible bytes ≡ false → false ≡ same
not_equal false bytes text e seen unseen = refl
not_equal true bytes text e seen unseen =
    let is : bytes ≡ text = (bytes_eq-Decides bytes text).0 e in sym unseen ∙ ap is_visible is ∙ seen

pub plus-other_text : (encoded text : List ℕ) → is_visible text ≡ true → list_any (λ y. y == 43) encoded ≡ true → false ≡ bytes_eq (decode encoded) text
plus-other_text encoded text seen plus = not_equal (bytes_eq (decode encoded) text) (decode encoded) text refl seen (plus-unseen encoded plus)

kept : (is_plus : Bool) (b : ℕ) → is_plus ≡ false → cond is_plus 32 b ≡ b
kept false b e = refl
kept true b e = cc

none_later : (is_plus : Bool) (later : Bool) → (is_plus || later) ≡ false → (is_plus ≡ false) × (later ≡ false)
none_later false later none = (refl, none)
none_later true later none = cc

no_plus : (bytes : List ℕ) → list_any (λ y. y == 43) bytes ≡ false → map plus_to_space bytes ≡ bytes
no_plus [] none = refl
no_plus (b ∷ bytes) none =
    let each = none_later (b == 43) (list_any (λ y. y == 43) bytes) none in
    rw (kept (b == 43) b each.0, no_plus bytes each.1) refl

-- escapes alone are decoded where there is no `+`
pub decode-of_escapes : (encoded : List ℕ) → list_any (λ y. y == 43) encoded ≡ false → percent_decode encoded ≡ decode encoded
decode-of_escapes encoded none = ap percent_decode (sym (no_plus encoded none))

-- ---- as texts

both : (a b : Bool) → (a && b) ≡ true → (a ≡ true) × (b ≡ true)
both true true e = (refl, refl)
both true false e = cc
both false b e = cc

seen_small : (c : ℕ) → is_ascii_graphic c ≡ true → c < 128
seen_small c seen = grind (arith, common_steps, nat_tests)

ascii_nil : IsAscii []
ascii_nil i = omega arith

IsAscii-visible : (text : List ℕ) → is_visible text ≡ true → IsAscii text
IsAscii-visible [] seen = ascii_nil
IsAscii-visible (b ∷ bytes) seen =
    let each = both (is_ascii_graphic b) (is_visible bytes) seen in IsAscii-cons b bytes (seen_small b each.0) (IsAscii-visible bytes each.1)

-- visible bytes are a text
pub lossy-visible : (bytes : List ℕ) → is_visible bytes ≡ true → utf8_lossy bytes ≡ bytes
lossy-visible bytes seen = utf8_lossy-IsUtf8 bytes (IsUtf8-from_ascii bytes (IsAscii-visible bytes seen))

unseen_after : (front rest : List ℕ) → is_visible rest ≡ false → is_visible (front ++ rest) ≡ false
unseen_after [] rest unseen = unseen
unseen_after (b ∷ front) rest unseen = rw (unseen_after front rest unseen) (and_false (is_ascii_graphic b))

lossy_of : (whole : Bool) (bytes : List ℕ) → (utf8_valid_len bytes == length bytes) ≡ whole → is_visible (utf8_lossy bytes) ≡ true → utf8_lossy bytes ≡ bytes
lossy_of true bytes e seen =
    let len : length bytes ≡ utf8_valid_len bytes = sym (eqb-true (utf8_valid_len bytes) (length bytes) e) in
    utf8_lossy_last_chunk bytes bytes [] [] (sym (append-nil bytes)) len refl refl ∙ rw (utf8_lossy_empty [] refl) (append-nil bytes)
lossy_of false bytes e seen =
    let front = take (utf8_valid_len bytes) bytes in
    let rest = utf8_lossy (after_first_chunk bytes) in
    let is = utf8_lossy_step bytes (λ same. eqb-false (utf8_valid_len bytes) (length bytes) e same) in
    let unseen : is_visible (utf8_lossy bytes) ≡ false = ap is_visible is ∙ unseen_after front (replacement_bytes ++ rest) refl in
    cc

-- U+FFFD is not visible, so that a visible text is the bytes themselves
pub visible-lossy : (bytes : List ℕ) → is_visible (utf8_lossy bytes) ≡ true → utf8_lossy bytes ≡ bytes
visible-lossy bytes seen = lossy_of (utf8_valid_len bytes == length bytes) bytes refl seen

-- a text is a visible one where the bytes are
pub visible-eq : (bytes text : List ℕ) → is_visible text ≡ true → bytes_eq bytes text ≡ bytes_eq (utf8_lossy bytes) text
visible-eq bytes text seen =
    let of_bytes = bytes_eq-Decides bytes text in
    let of_text = bytes_eq-Decides (utf8_lossy bytes) text in
    same_from_decides (bytes_eq bytes text) (bytes_eq (utf8_lossy bytes) text) of_bytes (
      λ e. let is : utf8_lossy bytes ≡ text = of_text.0 e in sym (visible-lossy bytes (ap is_visible is ∙ seen)) ∙ is,
      λ e. of_text.1 (lossy-visible bytes (ap is_visible e ∙ seen) ∙ e),
    )

-- ---- the digest of what is visible

digest_of : (seen : Bool) (bytes told : List ℕ) → is_visible bytes ≡ seen → (if seen then Some (sha256 bytes) else None) ≡ Some told → (is_visible bytes ≡ true) × (told ≡ sha256 bytes)
digest_of true bytes told e is = (e, cc)
digest_of false bytes told e is = cc

pub told-digest : (bytes told : List ℕ) → (if is_visible bytes then Some (sha256 bytes) else None) ≡ Some told → (is_visible bytes ≡ true) × (told ≡ sha256 bytes)
told-digest bytes told is = digest_of (is_visible bytes) bytes told refl is

none_of : (seen : Bool) (bytes : List ℕ) → (if seen then Some (sha256 bytes) else None) ≡ None → seen ≡ true → ⊥
none_of true bytes is e = cc
none_of false bytes is e = cc

pub no-digest : (bytes : List ℕ) → (if is_visible bytes then Some (sha256 bytes) else None) ≡ None → is_visible bytes ≡ true → ⊥
no-digest bytes is seen = none_of (is_visible bytes) bytes is seen

pub visible-append : (bytes : List ℕ) (b : ℕ) → is_visible bytes ≡ true → is_ascii_graphic b ≡ true → is_visible (bytes ++ b ∷ []) ≡ true
visible-append [] b seen last = rw last refl
visible-append (first ∷ bytes) b seen last =
    let each = both (is_ascii_graphic first) (is_visible bytes) seen in rw (each.0) (visible-append bytes b each.1 last)

pub unseen-within : (bytes front : List ℕ) (b : ℕ) (rest : List ℕ) → bytes ≡ front ++ b ∷ rest → is_ascii_graphic b ≡ false → is_visible bytes ≡ false
unseen-within bytes front b rest is unseen = ap is_visible is ∙ unseen_after front (b ∷ rest) (rw unseen refl)
