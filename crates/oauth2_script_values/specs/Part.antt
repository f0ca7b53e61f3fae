-- How parts of a script are read from a JSON value.
use Rattle.std.specs.Prelude.{ℕ, zero, suc, ◌*◌, List, [], ◌∷◌, ℤ, pos, negsuc, ◌*ℤ◌, ◌&&◌, Option, Some, None, Ok, Err, length, nat_le, if◌then◌else◌, codes}
use Rattle.std.specs.Int.Signed.{le_z}
use Rattle.std.specs.List.{list_all}
use Rattle.http_header.specs.Token.{is_value_byte}
use Rattle.serde_json.specs.Data.{Num, unsigned, negative, float, Data, Items, no_items, item}
use Rattle.serde_json.specs.Find.{get, as_str, as_array, as_number, as_object}
use Rattle.oauth2_types.specs.Pkce.{Challenge, sha256_challenge}
use Rattle.oauth2_urls.specs.Addressed.{Addressed}
use Rattle.url.specs.Parts.{Parts}
use Rattle.url.specs.Parser.{Parsed, parse_url}
use Rattle.oauth2_script_values.specs.Reading.{Reading, ◌>>=◌, map_read, bad, or_bad, inside, to_member, to_item}
use Rattle.oauth2_script_values.specs.declared.script_cause.ScriptCause.TheVariants.{NotObject, Missing, WrongType, OutOfRange, BadUrl, UnknownWord, BadText}

module _ {A : Type 0} (part : Data → Reading A) where
  -- a value that has to be there
  abbrev pub read_needed : Option Data → Reading A
  read_needed None = bad Missing
  read_needed (Some d) = part d

  -- a member that has to be present
  unfoldable pub needed_part : List ℕ → Data → Reading A
  needed_part name d = inside (to_member name) (read_needed (get name d))

  -- `None` if the member is absent; null is a value, and does not count as absent
  abbrev pub read_if_present : List ℕ → Option Data → Reading (Option A)
  read_if_present name None = Ok None
  read_if_present name (Some d) = map_read Some (inside (to_member name) (part d))

  -- an optional member of this name
  unfoldable pub present_part : List ℕ → Data → Reading (Option A)
  present_part name d = read_if_present name (get name d)

  -- reads each item of a list, of which the first has this index
  abbrev pub each_item : ℕ → Items → Reading (List A)
  each_item i no_items = Ok []
  each_item i (item d ds) =
      inside (to_item i) (part d) >>= λ x. map_read (λ xs. x ∷ xs) (each_item (suc i) ds)

  -- reads each item of a list
  abbrev pub list_of : Data → Reading (List A)
  list_of d = or_bad WrongType (as_array d) >>= each_item 0

  -- reads a list; an absent one is empty
  abbrev pub list_or_empty : Option Data → Reading (List A)
  list_or_empty None = Ok []
  list_or_empty (Some d) = list_of d

  -- the list of this name; an absent one is empty
  unfoldable pub list_part : List ℕ → Data → Reading (List A)
  list_part name d = inside (to_member name) (list_or_empty (get name d))

-- a part that is read from the object `params`
abbrev pub of_params : {A : Type 0} → (Data → Reading A) → Data → Reading A
of_params part params = inside (to_member (codes "params")) (part params)

-- a value that has to be an object
abbrev pub an_object : Data → Reading Data
an_object d = map_read (λ _. d) (or_bad NotObject (as_object d))

-- a text
abbrev pub text : Data → Reading (List ℕ)
text d = or_bad WrongType (as_str d)

-- a text that is one of the words that the function knows
abbrev pub word : {A : Type 0} → (List ℕ → Option A) → Data → Reading A
word known d = text d >>= λ t. or_bad UnknownWord (known t)

-- a number that is whole and not negative; one that is written as a float is of another type:
-- `serde_json` holds as floats numbers with a fraction or an exponent, -0, and whole numbers outside
-- its integer types
abbrev pub natural : Num → Reading ℕ
natural (unsigned n) = Ok n
natural (negative z) = bad OutOfRange
natural (float x) = bad WrongType

-- a whole number, 0 to 2^64 - 1
abbrev pub whole_number : Data → Reading ℕ
whole_number d = or_bad WrongType (as_number d) >>= natural

-- a number that is whole, which may be negative; one that is written as a float is of another type
abbrev pub integer : Num → Reading ℤ
integer (unsigned n) = Ok (pos n)
integer (negative z) = Ok z
integer (float x) = bad WrongType

-- a name and a value, the two items of a list
abbrev pub pair_from : Data → Data → Reading (List ℕ × List ℕ)
pair_from a b =
    inside (to_item 0) (text a) >>= λ name. map_read (λ value. (name, value)) (inside (to_item 1) (text b))

-- a name and a value from a list of exactly two texts
abbrev pub pair_of : Items → Reading (List ℕ × List ℕ)
pair_of no_items = bad WrongType
pair_of (item a no_items) = bad WrongType
pair_of (item a (item b no_items)) = pair_from a b
pair_of (item a (item b (item c ds))) = bad WrongType

-- a name and a value, as a list of exactly two texts; an item of `extra`
abbrev pub pair_part : Data → Reading (List ℕ × List ℕ)
pair_part d = or_bad WrongType (as_array d) >>= pair_of

-- a text with its URL, if the parser of the URL Standard accepts the text
abbrev pub address_of : List ℕ → Parsed Parts → Reading Addressed
address_of t (Ok url) = Ok (record { text = t; url = url })
address_of t (Err e) = bad BadUrl

-- a text that is a URL, without a base (URL Standard)
abbrev pub address : Data → Reading Addressed
address d = text d >>= λ t. address_of t (parse_url None t)

-- the URL, if the parser of the URL Standard accepts the text
abbrev pub url_of : Parsed Parts → Reading Parts
url_of (Ok url) = Ok url
url_of (Err e) = bad BadUrl

-- a text that is a URL, without a base (URL Standard); only the URL is kept
abbrev pub url_part : Data → Reading Parts
url_part d = text d >>= λ t. url_of (parse_url None t)

-- a text of 43 to 128 bytes, the lengths of a code verifier (RFC 7636, 4.1)
abbrev pub verifier_of : List ℕ → Reading (List ℕ)
verifier_of t = if nat_le 43 (length t) && nat_le (length t) 128 then Ok t else bad BadText

-- a code verifier of 43 to 128 bytes (RFC 7636, 4.1); its characters are not restricted
abbrev pub verifier : Data → Reading (List ℕ)
verifier d = text d >>= verifier_of

-- the S256 challenge of a code verifier (RFC 7636, 4.2)
abbrev pub challenge_part : Data → Reading Challenge
challenge_part d = map_read sha256_challenge (verifier d)

-- a value of any kind, as it is
abbrev pub any_value : Data → Reading Data
any_value d = Ok d

-- a status code of HTTP, 100 to 999
abbrev pub status_in_range : ℕ → Reading ℕ
status_in_range n = if nat_le 100 n && nat_le n 999 then Ok n else bad OutOfRange

-- a number that is a status code of HTTP, 100 to 999
abbrev pub status : Data → Reading ℕ
status d = whole_number d >>= status_in_range

-- a text without control characters other than a tab, as a field value (RFC 9110, 5.5)
abbrev pub field_of : List ℕ → Reading (List ℕ)
field_of t = if list_all is_value_byte t then Ok t else bad BadText

-- a text that may be the value of a header field (RFC 9110, 5.5)
abbrev pub field : Data → Reading (List ℕ)
field d = text d >>= field_of

-- whole seconds since 1970, from -9999-01-02T01:59:59Z to 9999-12-30T22:00:00Z
abbrev pub second_in_range : ℤ → Reading ℤ
second_in_range z =
    if le_z (negsuc 377705023200) z && le_z z (pos 253402207200) then Ok z else bad OutOfRange

-- the moment of a number of whole seconds since 1970, in the range of a reading; in nanoseconds
abbrev pub moment_of : Num → Reading ℤ
moment_of n = map_read (λ z. z *ℤ pos 1_000_000_000) (integer n >>= second_in_range)

-- a number of whole seconds since 1970, as nanoseconds since 1970
abbrev pub moment : Data → Reading ℤ
moment d = or_bad WrongType (as_number d) >>= moment_of

-- a number of whole seconds, 0 to 2^64 - 1, as nanoseconds
abbrev pub duration : Data → Reading ℕ
duration d = map_read (λ n. n * 1_000_000_000) (whole_number d)

-- a number from 0 to 255
abbrev pub small_in_range : ℕ → Reading ℕ
small_in_range n = if nat_le n 255 then Ok n else bad OutOfRange

-- a whole number, 0 to 255
abbrev pub small_number : Data → Reading ℕ
small_number d = whole_number d >>= small_in_range

-- a number that is at least 1
abbrev pub count_of : ℕ → Reading ℕ
count_of zero = bad OutOfRange
count_of (suc n) = Ok (suc n)

-- a whole number, 1 to 2^64 - 1
abbrev pub count : Data → Reading ℕ
count d = whole_number d >>= count_of
