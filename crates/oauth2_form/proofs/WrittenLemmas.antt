-- Written forms and encoded texts with something more.
use Rattle.std.proofs.Common.{◌≡◌, ℕ, ◌<◌, List, [], ◌∷◌, ◌++◌, All, length, refl, sym, ap, ◌∙◌, subst, append_assoc, append-nil, arith, length-append}
use Rattle.std.proofs.lemmas.Bool.{cond-true, lt-ltb}
use Rattle.std.proofs.lemmas.List.Sums.{fold-append}
use Rattle.std.proofs.lemmas.List.Elements.{All-nil, All-cons, All-append}
use Rattle.form_urlencoded.specs.Form.{parse, decode, byte_serialize, serialize_pair, separator, append_pair, extend_pairs}
use Rattle.form_urlencoded.proofs.FormLemmas.{round_trip, decode-byte_serialize, byte_serialize-append}
use Rattle.oauth2_form.specs.Pairs.{Pair, IsByte, IsBytePair}
use Rattle.oauth2_form.specs.private.Written.{IsWritten, IsEncodedText, JoinsForms}
use Rattle.oauth2_form.proofs.FormLaws.{parse-nil, parse-joined}

-- ---- what a text of written pairs decodes to

pub parse-written : (text : List ℕ) (pairs : List Pair) → text ≡ extend_pairs [] pairs → All IsBytePair pairs → parse text ≡ pairs
parse-written text pairs e bytes = ap parse e ∙ round_trip pairs bytes

pub IsWritten-from_pairs : (text : List ℕ) (pairs : List Pair) → text ≡ extend_pairs [] pairs → All IsBytePair pairs → IsWritten text
IsWritten-from_pairs text pairs e bytes =
    let decoded = parse-written text pairs e bytes in
    record { spelled = e ∙ sym (ap (extend_pairs []) decoded); bytes = subst (All IsBytePair) (sym decoded) bytes }

pub IsWritten_nothing : (text : List ℕ) → text ≡ [] → IsWritten text
IsWritten_nothing text e = IsWritten-from_pairs text [] e (All-nil IsBytePair)

-- ---- one more pair

one_more : (text new : List ℕ) (pair : Pair) → IsWritten text → new ≡ append_pair text pair.0 pair.1 → new ≡ extend_pairs [] (parse text ++ pair ∷ [])
one_more text new pair written e =
    e ∙ ap (λ x. append_pair x pair.0 pair.1) written.spelled ∙ sym (fold-append (λ t p. append_pair t p.0 p.1) [] (parse text) (pair ∷ []))

more_bytes : (text : List ℕ) (pair : Pair) → IsWritten text → IsBytePair pair → All IsBytePair (parse text ++ pair ∷ [])
more_bytes text pair written bytes = All-append IsBytePair (parse text) (pair ∷ []) written.bytes (All-cons IsBytePair pair [] bytes (All-nil IsBytePair))

pub IsWritten-append_pair : (text new : List ℕ) (pair : Pair) → IsWritten text → IsBytePair pair → new ≡ append_pair text pair.0 pair.1 → IsWritten new
IsWritten-append_pair text new pair written bytes e =
    IsWritten-from_pairs new (parse text ++ pair ∷ []) (one_more text new pair written e) (more_bytes text pair written bytes)

-- ---- the pairs of another form

nonempty : (pair : Pair) → 0 < length (serialize_pair pair)
nonempty pair = simp length-append (omega arith)

joined : (text : List ℕ) → 0 < length text → separator text ≡ 38 ∷ []
joined text long = cond-true _ _ _ (lt-ltb 0 _ long)

-- pairs after a text that is not empty leave what stands before it alone
extend_pairs-after : (a b : List ℕ) (pairs : List Pair) → 0 < length b → extend_pairs (a ++ b) pairs ≡ a ++ extend_pairs b pairs
extend_pairs-after a b [] long = refl
extend_pairs-after a b (pair ∷ pairs) long =
    let longer : 0 < length (append_pair b pair.0 pair.1) = simp length-append (omega arith) in
    let both : 0 < length (a ++ b) = simp length-append (omega arith) in
    let step : append_pair (a ++ b) pair.0 pair.1 ≡ a ++ append_pair b pair.0 pair.1 = rw (joined (a ++ b) both, joined b long) (simp append_assoc) in
    ap (λ x. extend_pairs x pairs) step ∙ extend_pairs-after a (append_pair b pair.0 pair.1) pairs longer

-- two forms that are not empty, with `&` between them
extend_pairs-joined : (text : List ℕ) (pair : Pair) (pairs : List Pair) → 0 < length text
    → extend_pairs text (pair ∷ pairs) ≡ text ++ 38 ∷ extend_pairs [] (pair ∷ pairs)
extend_pairs-joined text pair pairs long =
    let step : append_pair text pair.0 pair.1 ≡ (text ++ 38 ∷ []) ++ serialize_pair pair = rw (joined text long) refl in
    ap (λ x. extend_pairs x pairs) step ∙ extend_pairs-after (text ++ 38 ∷ []) (serialize_pair pair) pairs (nonempty pair)
    ∙ append_assoc text (38 ∷ []) (extend_pairs (serialize_pair pair) pairs)

bytes_of_both : (a b : List ℕ) → IsWritten a → IsWritten b → All IsBytePair (parse a ++ parse b)
bytes_of_both a b wa wb = All-append IsBytePair (parse a) (parse b) wa.bytes wb.bytes

-- the text of two forms
spelled_both : (a : List ℕ) (pairs more : List Pair) → a ≡ extend_pairs [] pairs → extend_pairs a more ≡ extend_pairs [] (pairs ++ more)
spelled_both a pairs more e = ap (λ x. extend_pairs x more) e ∙ sym (fold-append (λ t p. append_pair t p.0 p.1) [] pairs more)

joined_pairs : (a b : List ℕ) (more : List Pair) → 0 < length a → 0 < length b → b ≡ extend_pairs [] more → a ++ 38 ∷ b ≡ extend_pairs a more
joined_pairs a b [] long longer e = absurd (omega (arith, ap length e))
joined_pairs a b (pair ∷ pairs) long longer e = ap (λ x. a ++ 38 ∷ x) e ∙ sym (extend_pairs-joined a pair pairs long)

both_spelled : (a b new : List ℕ) → IsWritten a → IsWritten b → 0 < length a → 0 < length b → new ≡ a ++ 38 ∷ b → new ≡ extend_pairs [] (parse a ++ parse b)
both_spelled a b new wa wb long longer e =
    e ∙ joined_pairs a b (parse b) long longer wb.spelled ∙ spelled_both a (parse a) (parse b) wa.spelled

IsWritten_both : (a b new : List ℕ) → IsWritten a → IsWritten b → 0 < length a → 0 < length b → new ≡ a ++ 38 ∷ b → IsWritten new
IsWritten_both a b new wa wb long longer e = IsWritten-from_pairs new (parse a ++ parse b) (both_spelled a b new wa wb long longer e) (bytes_of_both a b wa wb)

-- ---- encoded texts

pub decode-encoded : (text value : List ℕ) → text ≡ byte_serialize value → All IsByte value → decode text ≡ value
decode-encoded text value e bytes = ap decode e ∙ decode-byte_serialize value bytes

pub IsEncodedText-from_value : (text value : List ℕ) → text ≡ byte_serialize value → All IsByte value → IsEncodedText text
IsEncodedText-from_value text value e bytes =
    let decoded = decode-encoded text value e bytes in
    record { spelled = e ∙ sym (ap byte_serialize decoded); bytes = subst (All IsByte) (sym decoded) bytes }

-- an encoded text with the encoding of more after it
encoded_more : (text new more : List ℕ) → IsEncodedText text → new ≡ text ++ byte_serialize more → new ≡ byte_serialize (decode text ++ more)
encoded_more text new more is e = e ∙ ap (λ x. x ++ byte_serialize more) is.spelled ∙ sym (byte_serialize-append (decode text) more)

pub decode-more : (text new more : List ℕ) → IsEncodedText text → All IsByte more → new ≡ text ++ byte_serialize more → decode new ≡ decode text ++ more
decode-more text new more is bytes e =
    decode-encoded new (decode text ++ more) (encoded_more text new more is e) (All-append IsByte (decode text) more is.bytes bytes)

pub IsEncodedText-more : (text new more : List ℕ) → IsEncodedText text → All IsByte more → new ≡ text ++ byte_serialize more → IsEncodedText new
IsEncodedText-more text new more is bytes e =
    IsEncodedText-from_value new (decode text ++ more) (encoded_more text new more is e) (All-append IsByte (decode text) more is.bytes bytes)

-- ---- two forms as one

empty_list : (xs : List ℕ) → length xs ≡ 0 → xs ≡ []
empty_list [] e = refl
empty_list (x ∷ xs) e = absurd (omega arith)

pub JoinsForms_right_empty : (a b : List ℕ) → IsWritten a → length b ≡ 0 → JoinsForms a b a
JoinsForms_right_empty a b wa none =
    record { written = wa; pairs = sym (ap (λ x. parse a ++ x) (ap parse (empty_list b none) ∙ parse-nil) ∙ append-nil (parse a)) }

pub JoinsForms_left_empty : (a b new : List ℕ) → IsWritten b → length a ≡ 0 → new ≡ a ++ b → JoinsForms a b new
JoinsForms_left_empty a b new wb none e =
    let alone : new ≡ b = e ∙ ap (λ x. x ++ b) (empty_list a none) in
    record { written = subst IsWritten (sym alone) wb; pairs = ap parse alone ∙ sym (ap (λ x. x ++ parse b) (ap parse (empty_list a none) ∙ parse-nil)) }

pub JoinsForms_both : (a b new : List ℕ) → IsWritten a → IsWritten b → 0 < length a → 0 < length b → new ≡ a ++ 38 ∷ b → JoinsForms a b new
JoinsForms_both a b new wa wb long longer e = record { written = IsWritten_both a b new wa wb long longer e; pairs = ap parse e ∙ parse-joined a b }
