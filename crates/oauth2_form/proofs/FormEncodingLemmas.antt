-- What a form writes, a byte at a time.
use Rattle.std.proofs.Common.{◌≡◌, ◌≢◌, ℕ, ◌==◌, Bool, true, false, ◌||◌, List, [], ◌∷◌, ◌++◌, All, map, length, cond, get_or, refl, sym, ap, ◌∙◌, arith, append_assoc, append-nil}
use Rattle.std.specs.List.{range_with_len}
use Rattle.std.specs.Char.{is_ascii_alphanumeric}
use Rattle.std.proofs.lemmas.Bool.Decides.{nat_tests}
use Rattle.std.proofs.lemmas.List.Elements.{All-head, All-tail}
use Rattle.std.proofs.lemmas.List.FromFn.{get_or-map-range_with_len}
use Rattle.percent_encoding.specs.Percent.{percent_encode_byte}
use Rattle.form_urlencoded.specs.Form.{is_unchanged, serialize_byte, byte_serialize, IsPrefix}
use Rattle.form_urlencoded.proofs.FormLemmas.{byte_serialize-nil, byte_serialize-cons}
use Rattle.oauth2_form.specs.FormEncoding.{is_left_alone, form_byte, form_text}
use Rattle.oauth2_form.specs.Pairs.{IsByte}
use Rattle.oauth2_form.specs.private.EncodingTable.{single_byte}

-- ---- the kit's definition is the standard's

form_bytes : map form_byte (range_with_len 0 256) ≡ map serialize_byte (range_with_len 0 256)
unfolding percent_encode_byte
form_bytes = refl

form_byte-serialize_byte : (b : ℕ) → IsByte b → form_byte b ≡ serialize_byte b
form_byte-serialize_byte b small =
    sym (get_or-map-range_with_len form_byte 0 256 b b [] small (omega arith)) ∙ ap (λ t. get_or t b []) form_bytes
    ∙ get_or-map-range_with_len serialize_byte 0 256 b b [] small (omega arith)

pub form_text-byte_serialize : (text : List ℕ) → All IsByte text → form_text text ≡ byte_serialize text
form_text-byte_serialize [] bytes = sym byte_serialize-nil
form_text-byte_serialize (b ∷ bs) bytes =
    ap (λ x. x ++ form_text bs) (form_byte-serialize_byte b (All-head IsByte b bs bytes))
    ∙ ap (λ x. serialize_byte b ++ x) (form_text-byte_serialize bs (All-tail IsByte b bs bytes)) ∙ sym (byte_serialize-cons b bs)

-- ---- what stands for one byte

regrouped : (a x y z w : Bool) → (a || x || y || z || w) ≡ (a || (x || (y || (z || (w || false)))))
regrouped true x y z w = refl
regrouped false true y z w = refl
regrouped false false true z w = refl
regrouped false false false true w = refl
regrouped false false false false true = refl
regrouped false false false false false = refl

left_alone : (b : ℕ) → is_unchanged b ≡ is_left_alone b
left_alone b = regrouped (is_ascii_alphanumeric b) (b == 42) (b == 45) (b == 46) (b == 95)

serialize_byte-by_set : (b : ℕ) → serialize_byte b ≡ cond (is_left_alone b) (b ∷ []) (cond (b == 32) (43 ∷ []) (percent_encode_byte b))
serialize_byte-by_set b = ap (λ t. cond t (b ∷ []) (cond (b == 32) (43 ∷ []) (percent_encode_byte b))) (left_alone b)

unchanged_nonzero : (b : ℕ) → is_unchanged b ≡ true → b ≢ 0
unchanged_nonzero b kept zero = grind (arith, nat_tests)

alone : (t u : Bool) (b : ℕ) (e : List ℕ) → cond t b (cond u 43 0) ≢ 0 → cond t (b ∷ []) (cond u (43 ∷ []) e) ≡ cond t b (cond u 43 0) ∷ []
alone true u b e h = refl
alone false true b e h = refl
alone false false b e h = absurd (h refl)

escaped : (t u : Bool) (b : ℕ) (e : List ℕ) → (t ≡ true → b ≢ 0) → cond t b (cond u 43 0) ≡ 0 → cond t (b ∷ []) (cond u (43 ∷ []) e) ≡ e
escaped true u b e nonzero h = absurd (nonzero refl h)
escaped false true b e nonzero h = absurd (omega (arith, h))
escaped false false b e nonzero h = refl

pub serialize_byte-single : (b single : ℕ) → single ≡ single_byte b → single ≢ 0 → serialize_byte b ≡ single ∷ []
serialize_byte-single b single is nonzero =
    serialize_byte-by_set b ∙ alone (is_left_alone b) (b == 32) b (percent_encode_byte b) (λ z. nonzero (is ∙ z)) ∙ ap (λ x. x ∷ []) (sym is)

pub serialize_byte-escape : (b single : ℕ) → single ≡ single_byte b → single ≡ 0 → serialize_byte b ≡ percent_encode_byte b
serialize_byte-escape b single is zero =
    serialize_byte-by_set b
    ∙ escaped (is_left_alone b) (b == 32) b (percent_encode_byte b) (λ kept. unchanged_nonzero b (left_alone b ∙ kept)) (sym is ∙ zero)

-- ---- what is written so far, and what is left

-- one byte more was written
pub byte_written : (before after whole wrote : List ℕ) (b : ℕ) (rest : List ℕ) → serialize_byte b ≡ wrote → after ≡ before ++ wrote
    → before ++ byte_serialize (b ∷ rest) ≡ whole → after ++ byte_serialize rest ≡ whole
byte_written before after whole wrote b rest one e so_far =
    ap (λ x. x ++ byte_serialize rest) e ∙ append_assoc before wrote (byte_serialize rest)
    ∙ sym (ap (λ x. before ++ (x ++ byte_serialize rest)) one) ∙ sym (ap (λ x. before ++ x) (byte_serialize-cons b rest)) ∙ so_far

-- nothing is left
pub nothing_left : (out whole rest : List ℕ) → length rest ≡ 0 → out ++ byte_serialize rest ≡ whole → out ≡ whole
nothing_left out whole [] none so_far = sym (append-nil out) ∙ sym (ap (λ x. out ++ x) byte_serialize-nil) ∙ so_far
nothing_left out whole (b ∷ bs) none so_far = absurd (omega arith)

pub IsPrefix_longer : (a b c : List ℕ) → IsPrefix a b → IsPrefix b c → IsPrefix a c
IsPrefix_longer a b c p q = (p.0 ++ q.0, q.1 ∙ ap (λ x. x ++ q.0) p.1 ∙ append_assoc a p.0 q.0)
