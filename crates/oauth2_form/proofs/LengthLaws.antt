-- How long a form gets.
use Rattle.std.proofs.Common.{◌≡◌, ℕ, ◌+◌, ◌-◌, ◌^◌, ◌<◌, List, [], ◌∷◌, ◌++◌, length, take, min, slice_index, arith, sym, ap, ◌∙◌, append-nil}
use Rattle.std.proofs.lemmas.Grind.{common_steps}
use Rattle.std.proofs.lemmas.List.{length-append}
use Rattle.form_urlencoded.specs.Form.{serialize_byte, byte_serialize}
use Rattle.form_urlencoded.proofs.FormLemmas.{byte_serialize-nil, byte_serialize-cons, byte_serialize-append}
use Rattle.oauth2_form.specs.Length.{usize_len}

-- a count that is cut at a limit after each step is cut once
cut_once : (a b m : ℕ) → min (min a m + b) m ≡ min (a + b) m
cut_once a b m = omega arith

-- the count of two texts, by that of the first and the second's length
pub usize_len-append : (xs ys : List ℕ) → min (usize_len xs + length ys) (2 ^ 64 - 1) ≡ usize_len (xs ++ ys)
usize_len-append xs ys = cut_once (length xs) (length ys) (2 ^ 64 - 1) ∙ ap (λ n. min n (2 ^ 64 - 1)) (sym (length-append xs ys))

byte_serialize-one : (b : ℕ) → byte_serialize (b ∷ []) ≡ serialize_byte b
byte_serialize-one b = byte_serialize-cons b [] ∙ ap (λ x. serialize_byte b ++ x) byte_serialize-nil ∙ simp append-nil

-- one byte more was counted
pub usize_len-byte : (text : List ℕ) (index : ℕ) → index < length text
    → min (usize_len (byte_serialize (take index text)) + length (serialize_byte (slice_index text index))) (2 ^ 64 - 1) ≡ usize_len (byte_serialize (take (index + 1) text))
usize_len-byte text index inside =
    let cut : take (index + 1) text ≡ take index text ++ slice_index text index ∷ [] = grind (arith, common_steps) in
    usize_len-append (byte_serialize (take index text)) (serialize_byte (slice_index text index))
    ∙ ap usize_len (ap (λ x. byte_serialize (take index text) ++ x) (sym (byte_serialize-one (slice_index text index)))
    ∙ sym (byte_serialize-append (take index text) (slice_index text index ∷ [])) ∙ ap byte_serialize (sym cut))
