-- The laws of Basic credentials.
use Rattle.std.proofs.Common.{◌≡◌, ◌≢◌, ℕ, ◌+◌, ◌*◌, ◌<◌, ◌≤◌, ◌==◌, List, [], ◌∷◌, ◌++◌, length, All, Some, codes, suc, zero, IsTrue, sym, refl, ap, ◌∙◌, ⊎_elim, arith, rules, ◌/◌, ◌%◌, length-append, length-take}
use Rattle.std.specs.List.{position_or_len}
use Rattle.std.specs.declared.result.Result.TheVariants.{Ok}
use Rattle.std.proofs.lemmas.Bool.{lt-ltb}
use Rattle.std.proofs.lemmas.Bool.Decides.{nat_tests}
use Rattle.std.proofs.lemmas.List.Elements.{All-nil, All-cons, All-head, All-tail, All-append, All-weaker, All-replicate}
use Rattle.form_urlencoded.specs.Form.{byte_serialize}
use Rattle.form_urlencoded.proofs.FormLemmas.{IsSerializedByte, All-byte_serialize, decode-byte_serialize, split_once_before_at, split_once_after_at}
use Rattle.base64.specs.Engines.{standard}
use Rattle.base64.specs.GeneralPurpose.{IsBytes, encode_of, decode_of}
use Rattle.base64.proofs.EngineFacts.{decode_of-encode_of}
use Rattle.base64.specs.Rfc4648.{encode_symbols, padding_len}
use Rattle.base64.proofs.Tables.{are_tables_alphabet, is_alphabet_symbol}
use Rattle.std.specs.Prelude.{slice_index, replicate}
use Rattle.http_header.specs.Token.{is_value_byte}
use Rattle.http_header.specs.FieldValue.{IsFieldValue}
use Rattle.oauth2_form.specs.Pairs.{IsByte, Pair}
use Rattle.oauth2_form.specs.Basic.{pair_of_text, pair_of_decoded, basic, basic_text, basic_value}

small_from_serialized : (b : ℕ) → IsSerializedByte b → IsByte b
small_from_serialized b h = ⊎_elim (λ kept. grind (arith, nat_tests)) (λ other. grind arith) h.allowed

no_colon_from_serialized : (b : ℕ) → IsSerializedByte b → b ≢ 58
no_colon_from_serialized b h e = ⊎_elim (λ kept. grind (arith, nat_tests)) (λ other. grind arith) h.allowed

-- the first half of a Basic text has no colon
pub no_colon : (id : List ℕ) → All (λ b. b ≢ 58) (byte_serialize id)
no_colon id = All-weaker IsSerializedByte (λ b. b ≢ 58) no_colon_from_serialized (byte_serialize id) (All-byte_serialize id)

small : (bs : List ℕ) → All IsByte (byte_serialize bs)
small bs = All-weaker IsSerializedByte IsByte small_from_serialized (byte_serialize bs) (All-byte_serialize bs)

-- a Basic text is bytes
pub All-basic_text : (id secret : List ℕ) → All IsByte (basic_text id secret)
All-basic_text id secret =
    All-append IsByte (byte_serialize id) (58 ∷ byte_serialize secret) (small id) (All-cons IsByte 58 (byte_serialize secret) (omega arith) (small secret))

pub IsBytes-from_all : (bs : List ℕ) → All IsByte bs → IsBytes bs
IsBytes-from_all [] all i = omega arith
IsBytes-from_all (b ∷ bs) all zero = All-head IsByte b bs all
IsBytes-from_all (b ∷ bs) all (suc i) = IsBytes-from_all bs (All-tail IsByte b bs all) i

-- the first colon of a Basic text stands after the identifier
colon_at : (xs ys : List ℕ) → All (λ b. b ≢ 58) xs → position_or_len (λ b. b == 58) (xs ++ 58 ∷ ys) < length (xs ++ 58 ∷ ys)
colon_at xs ys none =
    let front = ap length (split_once_before_at 58 xs ys none) in
    simp (length-append) (omega (arith, simp (length-take, length-append) at front))

pub pair_of_text-basic_text : (id secret : List ℕ) → All IsByte id → All IsByte secret → pair_of_text (basic_text id secret) ≡ Some (id, secret)
unfolding pair_of_text
pair_of_text-basic_text id secret id_bytes secret_bytes =
    let none = no_colon id in
    let found = lt-ltb _ _ (colon_at (byte_serialize id) (byte_serialize secret) none) in
    rw found
    (rw (split_once_before_at 58 (byte_serialize id) (byte_serialize secret) none, split_once_after_at 58 (byte_serialize id) (byte_serialize secret) none, decode-byte_serialize id id_bytes, decode-byte_serialize secret secret_bytes) refl)

-- A server that decodes reads the identifier and the secret.
pub basic-basic_value : (id secret : List ℕ) → All IsByte id → All IsByte secret → basic (basic_value id secret) ≡ Some (id, secret)
unfolding basic
basic-basic_value id secret id_bytes secret_bytes =
    let decoded : decode_of standard (encode_of standard (basic_text id secret)) ≡ Ok (basic_text id secret) = decode_of-encode_of standard (basic_text id secret) refl (IsBytes-from_all _ (All-basic_text id secret)) in
    ap pair_of_decoded decoded ∙ pair_of_text-basic_text id secret id_bytes secret_bytes

-- Two different pairs never give the same header.
pub basic_value_injective : (id secret other_id other_secret : List ℕ) → All IsByte id → All IsByte secret → All IsByte other_id → All IsByte other_secret
    → basic_value id secret ≡ basic_value other_id other_secret → (other_id ≡ id) × (other_secret ≡ secret)
basic_value_injective id secret other_id other_secret b1 b2 b3 b4 same =
    let e : Some (other_id, other_secret) ≡ Some (id, secret) = sym (basic-basic_value other_id other_secret b3 b4) ∙ sym (ap basic same) ∙ basic-basic_value id secret b1 b2 in
    let p : (other_id, other_secret) ≡ (id, secret) = cc e in
    (ap (λ (q : Pair). q.0) p, ap (λ (q : Pair). q.1) p)

-- ---- a Basic header is a valid field value

abbrev IsValueByte : ℕ → Type 0
IsValueByte b = IsTrue (is_value_byte b)

value_byte_from_range : (b : ℕ) → 32 ≤ b → b ≤ 126 → IsValueByte b
value_byte_from_range b low high = grind (arith, nat_tests)

-- the engine's symbols may stand in a field value
standard_symbol : (i : ℕ) → i < 64 → IsValueByte (slice_index standard.encode_table i)
standard_symbol i inside =
    let alphabet = are_tables_alphabet standard.encode_table standard.decode_table standard.padding.value standard.tables in
    let range = is_alphabet_symbol standard.encode_table standard.padding.value i alphabet inside in
    value_byte_from_range _ range.0 range.1

all_two : (P : ℕ → Type 0) (x y : ℕ) → P x → P y → All P (x ∷ y ∷ [])
all_two P x y px py = All-cons P x (y ∷ []) px (All-cons P y [] py (All-nil P))

all_three : (P : ℕ → Type 0) (x y z : ℕ) → P x → P y → P z → All P (x ∷ y ∷ z ∷ [])
all_three P x y z px py pz = All-cons P x (y ∷ z ∷ []) px (all_two P y z py pz)

All-encode_symbols : (P : ℕ → Type 0) (t m : List ℕ) → ((i : ℕ) → i < 64 → P (slice_index t i)) → All IsByte m → All P (encode_symbols t m)
unfolding encode_symbols
All-encode_symbols P t [] symbol bytes = All-nil P
All-encode_symbols P t (a ∷ []) symbol bytes =
    let a_small : a < 256 = All-head IsByte a [] bytes in
    all_two P (slice_index t (a / 4)) (slice_index t (a % 4 * 16)) (symbol (a / 4) (omega arith)) (symbol (a % 4 * 16) (omega arith))
All-encode_symbols P t (a ∷ b ∷ []) symbol bytes =
    let a_small : a < 256 = All-head IsByte a (b ∷ []) bytes in
    let b_small : b < 256 = All-head IsByte b [] (All-tail IsByte a (b ∷ []) bytes) in
    all_three P (slice_index t (a / 4)) (slice_index t (a % 4 * 16 + b / 16)) (slice_index t (b % 16 * 4)) (symbol (a / 4) (omega arith)) (symbol (a % 4 * 16 + b / 16) (omega arith)) (symbol (b % 16 * 4) (omega arith))
All-encode_symbols P t (a ∷ b ∷ c ∷ rest) symbol bytes =
    let after_a = All-tail IsByte a (b ∷ c ∷ rest) bytes in
    let after_b = All-tail IsByte b (c ∷ rest) after_a in
    let a_small : a < 256 = All-head IsByte a (b ∷ c ∷ rest) bytes in
    let b_small : b < 256 = All-head IsByte b (c ∷ rest) after_a in
    let c_small : c < 256 = All-head IsByte c rest after_b in
    let later = All-cons P (slice_index t (c % 64)) (encode_symbols t rest) (symbol (c % 64) (omega arith)) (All-encode_symbols P t rest symbol (All-tail IsByte c rest after_b)) in
    All-append P (slice_index t (a / 4) ∷ slice_index t (a % 4 * 16 + b / 16) ∷ slice_index t (b % 16 * 4 + c / 64) ∷ []) (slice_index t (c % 64) ∷ encode_symbols t rest)
    (all_three P (slice_index t (a / 4)) (slice_index t (a % 4 * 16 + b / 16)) (slice_index t (b % 16 * 4 + c / 64)) (symbol (a / 4) (omega arith)) (symbol (a % 4 * 16 + b / 16) (omega arith)) (symbol (b % 16 * 4 + c / 64) (omega arith)))
    later

-- what the crate `base64` writes for bytes is visible ASCII
All-encode_of : (m : List ℕ) → All IsByte m → All IsValueByte (encode_of standard m)
All-encode_of m bytes =
    All-append IsValueByte (encode_symbols standard.encode_table m) (replicate (padding_len (length m)) 61) (All-encode_symbols IsValueByte standard.encode_table m standard_symbol bytes) (All-replicate IsValueByte (padding_len (length m)) 61 (value_byte_from_range 61 (omega arith) (omega arith)))

prefix_is_value : All IsValueByte (codes "Basic ")
prefix_is_value = search rules

-- so a Basic header is never refused
pub IsFieldValue-basic_value : (id secret : List ℕ) → IsFieldValue (basic_value id secret)
IsFieldValue-basic_value id secret =
    All-append IsValueByte (codes "Basic ") (encode_of standard (basic_text id secret)) prefix_is_value (All-encode_of (basic_text id secret) (All-basic_text id secret))
