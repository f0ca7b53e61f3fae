-- The rules that all JSON Web Tokens share: their type, the encoding of their payload, and the moment
-- from which on they are valid (RFC 7519, 4.1.5 and 5.1; RFC 7797, 7; RFC 8725, 3.11).
use Rattle.std.specs.Prelude.{◌≡◌, ◌⊎◌, ℕ, ℤ, ◌≤ℤ◌, int_le, List, map, Bool, true, false, ◌||◌, Option, Some, None, IfSome, IsSomeAnd, bytes_eq, codes}
use Rattle.std.specs.Char.{to_ascii_lowercase}
use Rattle.std.specs.Result.{result_ok}
use Rattle.serde_json.specs.Data.{Data, null, boolean, number, string, array, object}
use Rattle.serde_json.specs.Find.{as_str}
use Rattle.oauth2_openid.specs.Times.{time}

-- whether a type is that of any JSON Web Token: `JWT` or `application/jwt`, in any case of letters
-- (RFC 7519, 5.1; RFC 7515, 4.1.9)
abbrev pub names_plain : List ℕ → Bool
names_plain typ =
    bytes_eq (map to_ascii_lowercase typ) (codes "jwt")
    || bytes_eq (map to_ascii_lowercase typ) (codes "application/jwt")

-- RFC 8725, 3.11: whether a type, which has to be a string, is that of any JSON Web Token
abbrev pub is_plain : Option (List ℕ) → Bool
is_plain None = false
is_plain (Some typ) = names_plain typ

-- RFC 8725, 3.11: whether a header with this member `typ`, or with none, names no other kind of token
abbrev pub takes_plain : Option Data → Bool
takes_plain None = true
takes_plain (Some typ) = is_plain (as_str typ)

-- the value is `true`
abbrev pub is_true : Data → Bool
is_true null = false
is_true (boolean b) = b
is_true (number n) = false
is_true (string s) = false
is_true (array ds) = false
is_true (object ms) = false

-- RFC 7797, 3 and 7: whether the payload is encoded by this member `b64` of the header: it is `true`,
-- which is its default
abbrev pub is_encoded : Option Data → Bool
is_encoded None = true
is_encoded (Some b64) = is_true b64

-- whether a moment that was read is not after this one; a value that is no time is not
abbrev pub is_by : ℤ → Option ℤ → Bool
is_by latest None = false
is_by latest (Some start) = int_le start latest

-- RFC 7519, 4.1.5: whether the claim `nbf` lets the token be used at this moment: it is absent, null,
-- or a time that is not after it
abbrev pub has_started : ℤ → Option Data → Bool
has_started latest None = true
has_started latest (Some null) = true
has_started latest (Some d) = is_by latest (result_ok (time d))

-- ---- the rules as propositions

-- the type is `JWT` or `application/jwt`, in any case of letters (RFC 7519, 5.1)
abbrev pub IsPlainType : List ℕ → Type 0
IsPlainType typ =
    (map to_ascii_lowercase typ ≡ codes "jwt")
    ⊎ (map to_ascii_lowercase typ ≡ codes "application/jwt")

-- the header's `typ`, if it has one, is a string and that of any JSON Web Token
abbrev pub NamesNoOther : Option Data → Type 0
NamesNoOther typ = IfSome typ (λ d. IsSomeAnd (as_str d) IsPlainType)

-- the header's `b64`, if it has one, is `true`
abbrev pub IsEncoded : Option Data → Type 0
IsEncoded b64 = IfSome b64 (λ d. d ≡ boolean true)

-- the claim `nbf` is absent, null, or a time that is not after this moment
abbrev pub HasStarted : ℤ → Option Data → Type 0
HasStarted latest None = Unit
HasStarted latest (Some null) = Unit
HasStarted latest (Some d) = IsSomeAnd (result_ok (time d)) (λ start. start ≤ℤ latest)
