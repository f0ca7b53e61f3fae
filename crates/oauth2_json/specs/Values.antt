-- The kinds of values that members hold.
use Rattle.url.specs.Parser.{parse_url}
use Rattle.oauth2_urls.specs.Addressed.{Addressed}
use Rattle.std.specs.Prelude.{ℕ, ◌==◌, List, [], ◌∷◌, map, Bool, None, Ok, Err}
use Rattle.std.specs.Char.{to_ascii_lowercase}
use Rattle.std.specs.List.{slice_split}
use Rattle.serde_json.specs.Data.{Num, unsigned, negative, float, Data, null, boolean, number, string, array, object, Items, no_items, item}
use Rattle.oauth2_json.specs.Reading.{Reading, whole, at_member, read_then, ◌⊛◌}
use Rattle.oauth2_json.specs.declared.read.ParseCause.TheVariants as cause

-- the fault of a value that has another JSON type
abbrev pub wrong_type : {A : Type 0} → Reading A
wrong_type = Err (whole cause.WrongType)

-- a JSON string
abbrev pub text : Data → Reading (List ℕ)
text null = wrong_type
text (boolean b) = wrong_type
text (number n) = wrong_type
text (string s) = Ok s
text (array ds) = wrong_type
text (object ms) = wrong_type

-- true or false
abbrev pub flag : Data → Reading Bool
flag null = wrong_type
flag (boolean b) = Ok b
flag (number n) = wrong_type
flag (string s) = wrong_type
flag (array ds) = wrong_type
flag (object ms) = wrong_type

-- a whole number that is not negative; a float is `NotWhole`: `serde_json` holds as floats numbers
-- with a fraction or an exponent, -0, and whole numbers outside its integer types
abbrev pub natural : Num → Reading ℕ
natural (unsigned n) = Ok n
natural (negative z) = Err (whole cause.OutOfRange)
natural (float x) = Err (whole cause.NotWhole)

-- a JSON number that is whole and not negative, such as `expires_in` (RFC 6749, 5.1)
abbrev pub whole_number : Data → Reading ℕ
whole_number null = wrong_type
whole_number (boolean b) = wrong_type
whole_number (number n) = natural n
whole_number (string s) = wrong_type
whole_number (array ds) = wrong_type
whole_number (object ms) = wrong_type

-- ---- URLs

-- a text with the URL that it parses to by the URL Standard; else it is `BadUrl`
abbrev pub url_text : List ℕ → Reading Addressed
url_text s =
    elim (parse_url None s) [ Ok u ↦ Ok (record { text = s; url = u }) | Err e ↦ Err (whole cause.BadUrl) ]

-- a JSON string that is a URL
abbrev pub url : Data → Reading Addressed
url d = read_then (text d) url_text

-- ---- texts that hold another value, or several

-- a JSON string that `kind` reads after its ASCII letters are lowered
abbrev pub lowercase_reading : {A : Type 0} → (Data → Reading A) → Data → Reading A
lowercase_reading kind d = read_then (text d) (λ s. kind (string (map to_ascii_lowercase s)))

-- each piece, read by `kind` as a JSON string; a fault has an empty member name
abbrev pub each_word : {A : Type 0} → (Data → Reading A) → List (List ℕ) → Reading (List A)
each_word kind [] = Ok []
each_word kind (p ∷ ps) = Ok (λ first later. first ∷ later) ⊛ at_member [] (kind (string p)) ⊛ each_word kind ps

-- a JSON string that is split at every space; `kind` reads each piece (RFC 6749, 3.3)
abbrev pub words_reading : {A : Type 0} → (Data → Reading A) → Data → Reading (List A)
words_reading kind d = read_then (text d) (λ s. each_word kind (slice_split (λ c. c == 32) s))

-- ---- lists of texts

-- the items of an array, each a JSON string
abbrev pub each_text : Items → Reading (List (List ℕ))
each_text no_items = Ok []
each_text (item d ds) = Ok (λ first later. first ∷ later) ⊛ text d ⊛ each_text ds

-- an array of strings, or one string, read as a list of one; such as `aud` (RFC 7662, 2.2)
abbrev pub texts : Data → Reading (List (List ℕ))
texts null = wrong_type
texts (boolean b) = wrong_type
texts (number n) = wrong_type
texts (string s) = Ok (s ∷ [])
texts (array ds) = each_text ds
texts (object ms) = wrong_type

-- an array of strings; a single string is of the wrong type
abbrev pub text_list : Data → Reading (List (List ℕ))
text_list null = wrong_type
text_list (boolean b) = wrong_type
text_list (number n) = wrong_type
text_list (string s) = wrong_type
text_list (array ds) = each_text ds
text_list (object ms) = wrong_type

-- the items of an array of strings
abbrev pub text_items : List (List ℕ) → Items
text_items [] = no_items
text_items (p ∷ ps) = item (string p) (text_items ps)
