-- A map of headers holds the fields of a head that is short enough.
use Rattle.std.proofs.Common.{◌≡◌, ℕ, ◌+◌, ◌<◌, ◌≤◌, true, false, cond, bytes_eq, List, [], ◌∷◌, ◌++◌, length, take, fold, get_or, refl, sym, subst, inl, inr, arith}
use Rattle.std.specs.Prelude.{IsTrue, All, flat_map}
use Rattle.std.proofs.lemmas.List.{length-append, length-map, get_or-map}
use Rattle.std.proofs.lemmas.List.Elements.{All-map, All-weaker, All-cons}
use Rattle.std.proofs.lemmas.List.Sums.{sum_by-cons}
use Rattle.httparse.specs.Grammar as Parsed
use Rattle.httparse.specs.Grammar.{Field, IsField, ResponseHead, print_field, print_response}
use Rattle.httparse.specs.Spans.{span_bytes, header_bytes, name_and_value, AreFieldsAt}
use Rattle.httparse.specs.declared.spans.HeaderSpan.{HeaderSpan}
use Rattle.httparse.proofs.TrimLemmas.{AllPass-trim_ows}
use Rattle.http_header.specs.Token as Held
use Rattle.http_header.specs.FieldName.{IsFieldName}
use Rattle.http_header.specs.FieldValue.{FieldValue, IsFieldValue}
use Rattle.http_header.specs.HeaderMap.{Entries, update, append, value_count, RefusesAppend}
use Rattle.http1_typed.specs.Parts.{entry_at, map_at}
use Rattle.oauth2_http1.specs.private.Phase.{AreHeaders}

-- a token of one crate is a token of the other
same_byte : (b : ℕ) → IsTrue (Parsed.is_token_byte b) → IsTrue (Held.is_token_byte b)
unfolding Parsed.is_token_byte Held.is_token_byte
same_byte b is = is

field_name : (f : Field) (most : ℕ) → IsField f → length f.name ≤ most → most ≤ 65535 → IsFieldName f.name
field_name f most is short fits =
    ((is.name.0, All-weaker (λ b. IsTrue (Parsed.is_token_byte b)) (λ b. IsTrue (Held.is_token_byte b)) same_byte f.name is.name.1), omega arith)

name_short : (f : Field) → length f.name ≤ length (print_field f)
name_short f = simp length-append (omega arith)

-- no name is longer than the lines of all fields
names_short : (fields : List Field) → All (λ f. length f.name ≤ length (flat_map print_field fields)) fields
names_short [] = λ k d inside. absurd (omega (arith, inside))
names_short (f ∷ fields) =
    let sum : length (flat_map print_field (f ∷ fields)) ≡ length (print_field f) + length (flat_map print_field fields) =
    length-append (print_field f) (flat_map print_field fields) in
    let own = name_short f in
    All-cons (λ g. length g.name ≤ length (flat_map print_field (f ∷ fields))) f fields (omega (arith, sum, own))
    (All-weaker (λ g. length g.name ≤ length (flat_map print_field fields)) (λ g. length g.name ≤ length (flat_map print_field (f ∷ fields))) (λ g short. omega (arith, sum, short)) fields (names_short fields))

fields_short : (h : ResponseHead) → length (flat_map print_field h.fields) ≤ length (print_response h)
unfolding print_response
fields_short h = simp length-append (omega arith)

both : {X : Type 0} (P Q : X → Type 0) (xs : List X) → All P xs → All Q xs → All (λ x. P x × Q x) xs
both P Q xs p q = λ k d inside. (p k d inside, q k d inside)

-- the fields of a head that is no longer than the longest name
pub head_fits : (input : List ℕ) (spans : List HeaderSpan) (count : ℕ) (h : ResponseHead) → AreFieldsAt input spans count h.fields → All IsField h.fields → length (print_response h) ≤ 65535 → AreHeaders input (take count spans)
head_fits input spans count h at are short =
    let names = names_short h.fields in
    let most = fields_short h in
    subst (All (λ p. IsFieldName p.0 × IsFieldValue p.1)) (sym at)
    (All-map (λ p. IsFieldName p.0 × IsFieldValue p.1) name_and_value h.fields
    (All-weaker (λ f. IsField f × (length f.name ≤ length (flat_map print_field h.fields))) (λ f. IsFieldName (name_and_value f).0 × IsFieldValue (name_and_value f).1)
    (λ f is. (field_name f (length (flat_map print_field h.fields)) is.0 is.1 (omega (arith, most, short)), AllPass-trim_ows Parsed.is_value_byte f.raw is.0.raw))
    h.fields (both IsField (λ f. length f.name ≤ length (flat_map print_field h.fields)) h.fields are names)))

-- the name and the value at an index
pub header_at : (input : List ℕ) (spans : List HeaderSpan) (i : ℕ) (d : HeaderSpan) → i < length spans → AreHeaders input spans
    → IsFieldName (span_bytes input (get_or spans i d).name) × IsFieldValue (span_bytes input (get_or spans i d).value)
header_at input spans i d inside all =
    let far = header_bytes input d in
    subst (λ p. IsFieldName p.0 × IsFieldValue p.1) (get_or-map (header_bytes input) spans i d far inside) (all i far (omega (arith, length-map spans (header_bytes input))))

module _ {X : Type 0} where
  length-update : (m : Entries X) (name : List ℕ) (f : List X → List X) → length (update m name f) ≤ length m + 1
  length-update [] name f = omega arith
  length-update (e ∷ m) name f =
      let later = length-update m name f in
      elim (bytes_eq e.0 name) as (λ t. length (cond t ((e.0, f e.1) ∷ m) (e ∷ update m name f)) ≤ length (e ∷ m) + 1) [ true ↦ omega arith | false ↦ omega (arith, later) ]

  count-append : (m : Entries X) (name : List ℕ) (value : X) → value_count (append m name value) ≡ value_count m + 1
  count-append [] name value = refl
  count-append (e ∷ m) name value =
      let later = count-append m name value in
      let f = λ (values : List X). values ++ value ∷ [] in
      let now = sum_by-cons (λ (x : List ℕ × List X). length x.1) e m in
      let here = sum_by-cons (λ (x : List ℕ × List X). length x.1) (e.0, f e.1) m in
      let there = sum_by-cons (λ (x : List ℕ × List X). length x.1) e (update m name f) in
      let more = length-append e.1 (value ∷ []) in
      elim (bytes_eq e.0 name) as (λ t. value_count (cond t ((e.0, f e.1) ∷ m) (e ∷ update m name f)) ≡ value_count (e ∷ m) + 1) [ true ↦ omega (arith, now, here, more) | false ↦ omega (arith, now, there, later) ]

-- each header appended in order
abbrev with_spans : List ℕ → Entries FieldValue → List HeaderSpan → Entries FieldValue
with_spans input m spans = fold (λ n h. append n (entry_at input h).0 (entry_at input h).1) m spans

few_names : (input : List ℕ) (m : Entries FieldValue) (spans : List HeaderSpan) → length (with_spans input m spans) ≤ length m + length spans
few_names input m [] = omega arith
few_names input m (h ∷ spans) =
    let entry = entry_at input h in
    omega (arith, few_names input (append m entry.0 entry.1) spans, length-update m entry.0 (λ values. values ++ entry.1 ∷ []))

few_values : (input : List ℕ) (m : Entries FieldValue) (spans : List HeaderSpan) → value_count (with_spans input m spans) ≤ value_count m + length spans
few_values input m [] = omega arith
few_values input m (h ∷ spans) =
    let entry = entry_at input h in
    omega (arith, few_values input (append m entry.0 entry.1) spans, count-append m entry.0 entry.1)

-- a map of few fields has room for one more
pub has_room : (input : List ℕ) (spans : List HeaderSpan) (name : List ℕ) → length spans ≤ 100 → RefusesAppend (map_at input spans) name → ⊥
has_room input spans name few (inl full) = omega (arith, few_values input [] spans, few, full)
has_room input spans name few (inr (new, inl full)) = omega (arith, few_names input [] spans, few, full)
has_room input spans name few (inr (new, inr full)) = omega (arith, few_values input [] spans, few, full)
