-- The members of a JSON Web Key (RFC 7517, 4; RFC 7518, 6; RFC 8037, 2).
use Rattle.std.specs.Prelude.{◌≡◌, ℕ, List, [], ◌∷◌, codes, Bool, ◌||◌, Option, Some, None, is_some, Result, Ok, Err}
use Rattle.serde_json.specs.Data.{Data, null, boolean, number, string, array, object, Items, no_items, item}
use Rattle.serde_json.specs.Find.{get}
use Rattle.oauth2_openid.specs.Token.{bytes_of}
use Rattle.oauth2_keys.specs.declared.key_error.KeyMember.{KeyMember}
use Rattle.oauth2_keys.specs.declared.key_error.KeyMember.TheVariants as member
use Rattle.oauth2_keys.specs.declared.key_error.KeyError.{KeyError}
use Rattle.oauth2_keys.specs.declared.key_error.KeyError.TheVariants.{Missing, WrongType, NotBase64}
use Rattle.oauth2_keys.specs.declared.key_members.KeyReadError.{KeyReadError}
use Rattle.oauth2_keys.specs.declared.key_members.KeyReadError.TheVariants as errors

-- the names of the members (RFC 7517, 4.1 to 4.5; RFC 7518, 6.2.1 and 6.3.1)
abbrev pub member_name : KeyMember → List ℕ
member_name member.KeyType = codes "kty"
member_name member.Use = codes "use"
member_name member.Operations = codes "key_ops"
member_name member.Algorithm = codes "alg"
member_name member.KeyId = codes "kid"
member_name member.Modulus = codes "n"
member_name member.Exponent = codes "e"
member_name member.Curve = codes "crv"
member_name member.X = codes "x"
member_name member.Y = codes "y"

-- what a member, or a whole key, is read as, or the key's fault
abbrev pub KeyReading : Type 0 → Type 0
KeyReading M = Result M KeyError

-- a function and a value that were both read: its result; if both are faults, the left one
infixl 10 ◌⊛◌
abbrev pub ◌⊛◌ : {A B : Type 0} → KeyReading (A → B) → KeyReading A → KeyReading B
(Ok f) ⊛ (Ok a) = Ok (f a)
(Ok f) ⊛ (Err e) = Err e
(Err e) ⊛ r = Err e

-- a reading, and then one that depends on its value; the first fault is reported
abbrev pub key_then : {A B : Type 0} → KeyReading A → (A → KeyReading B) → KeyReading B
key_then (Ok a) f = f a
key_then (Err e) f = Err e

-- a private key has a member `d`, a secret a member `k` (RFC 7518, 6.2.2.1, 6.3.2.1 and 6.4.1; RFC
-- 8037, 2)
abbrev pub is_private : Data → Bool
is_private key = is_some (get (codes "d") key) || is_some (get (codes "k") key)

-- the string that a member holds; `None` if it is absent or null
abbrev pub text_of : KeyMember → Option Data → KeyReading (Option (List ℕ))
text_of m None = Ok None
text_of m (Some null) = Ok None
text_of m (Some (boolean b)) = Err (WrongType m)
text_of m (Some (number n)) = Err (WrongType m)
text_of m (Some (string s)) = Ok (Some s)
text_of m (Some (array ds)) = Err (WrongType m)
text_of m (Some (object ms)) = Err (WrongType m)

-- the string of this member of a key; `None` if it is absent or null
abbrev pub optional_text : KeyMember → Data → KeyReading (Option (List ℕ))
optional_text m key = text_of m (get (member_name m) key)

-- a value that has to be present
abbrev pub there : {A : Type 0} → KeyMember → Option A → KeyReading A
there m None = Err (Missing m)
there m (Some a) = Ok a

-- the string of this member of a key, which has to be present
abbrev pub needed_text : KeyMember → Data → KeyReading (List ℕ)
needed_text m key = key_then (optional_text m key) (there m)

-- the items of an array, each of which has to be a string
abbrev pub texts_in : KeyMember → Items → KeyReading (List (List ℕ))
texts_in m no_items = Ok []
texts_in m (item (string s) ds) = Ok (λ later. s ∷ later) ⊛ texts_in m ds
texts_in m (item null ds) = Err (WrongType m)
texts_in m (item (boolean b) ds) = Err (WrongType m)
texts_in m (item (number n) ds) = Err (WrongType m)
texts_in m (item (array es) ds) = Err (WrongType m)
texts_in m (item (object ms) ds) = Err (WrongType m)

-- the array of strings that a member holds; `None` if it is absent or null
abbrev pub texts_of : KeyMember → Option Data → KeyReading (Option (List (List ℕ)))
texts_of m None = Ok None
texts_of m (Some null) = Ok None
texts_of m (Some (boolean b)) = Err (WrongType m)
texts_of m (Some (number n)) = Err (WrongType m)
texts_of m (Some (string s)) = Err (WrongType m)
texts_of m (Some (array ds)) = Ok Some ⊛ texts_in m ds
texts_of m (Some (object ms)) = Err (WrongType m)

-- the array of strings of this member of a key; `None` if it is absent or null
abbrev pub optional_texts : KeyMember → Data → KeyReading (Option (List (List ℕ)))
optional_texts m key = texts_of m (get (member_name m) key)

-- the octets that a text was decoded to, or the fault that it is not base64url (RFC 7518, 2)
abbrev pub octets_of : KeyMember → Option (List ℕ) → KeyReading (List ℕ)
octets_of m None = Err (NotBase64 m)
octets_of m (Some octets) = Ok octets

-- the octets of this member of a key, which has to be base64url without padding (RFC 7518, 2)
abbrev pub octets : KeyMember → Data → KeyReading (List ℕ)
octets m key = key_then (needed_text m key) (λ text. octets_of m (bytes_of text))

-- the text itself, or the fault that it is not base64url
abbrev pub text_with : KeyMember → List ℕ → Option (List ℕ) → KeyReading (List ℕ)
text_with m text None = Err (NotBase64 m)
text_with m text (Some octets) = Ok text

-- the text of this member of a key, which has to be base64url without padding (RFC 7518, 2)
abbrev pub base64_text : KeyMember → Data → KeyReading (List ℕ)
base64_text m key = key_then (needed_text m key) (λ text. text_with m text (bytes_of text))

-- ---- what a function returned, compared with a reading

-- a function returned the result of the reading, its value seen by `meaning`
abbrev pub FindsAs : {T M : Type 0} → (T → M) → Result T KeyError → KeyReading M → Type 0
FindsAs meaning (Ok t) expected = expected ≡ Ok (meaning t)
FindsAs meaning (Err e) expected = expected ≡ Err e

-- a function returned the result of the reading, its value seen by `meaning`, or memory ran out
abbrev pub KeyReadsAs : {T M : Type 0} → (T → M) → Result T KeyReadError → KeyReading M → Type 0
KeyReadsAs meaning (Ok t) expected = expected ≡ Ok (meaning t)
KeyReadsAs meaning (Err (errors.Fault e)) expected = expected ≡ Err e
KeyReadsAs meaning (Err errors.Memory) expected = Unit {0}
