-- Tokens that can be revoked (RFC 7009, 2.1), and the JSON that they are saved as.
use Rattle.std.specs.Prelude.{ℕ, List, [], ◌∷◌, Bool, true, false, if◌then◌else◌, Option, Some, None, Ok, Err, codes}
use Rattle.serde_json.specs.Data.{Data, Members, no_members, member, put, string, object}
use Rattle.serde_json.specs.Find.{get_member}
use Rattle.oauth2_json.specs.Reading.{Reading, whole, read_then}
use Rattle.oauth2_json.specs.Members.{members_of_object, needed_member, others}
use Rattle.oauth2_json.specs.Values.{text}
use Rattle.oauth2_json.specs.Writing.{Writing}
use Rattle.oauth2_json.specs.declared.read.ParseCause.TheVariants as cause
use Rattle.oauth2_replies.specs.declared.revocation.StandardRevocableToken.{StandardRevocableToken}
use Rattle.oauth2_replies.specs.declared.revocation.StandardRevocableToken.TheVariants.{AccessToken, RefreshToken}

-- the text of the token
abbrev pub secret_of : StandardRevocableToken → List ℕ
secret_of (AccessToken text) = text
secret_of (RefreshToken text) = text

-- the hint of the token's type that the server is sent (`token_type_hint`; RFC 7009, 2.1)
abbrev pub hint_of : StandardRevocableToken → List ℕ
hint_of (AccessToken text) = codes "access_token"
hint_of (RefreshToken text) = codes "refresh_token"

-- the name of the variant, which is the name of the member in JSON
abbrev pub variant_of : StandardRevocableToken → List ℕ
variant_of (AccessToken text) = codes "AccessToken"
variant_of (RefreshToken text) = codes "RefreshToken"

-- whether there is at least one member
abbrev pub has_any : Members → Bool
has_any no_members = false
has_any (member k d ms) = true

-- the fault of an object that is not one token: the whole value is refused
abbrev pub token_refusal : Reading StandardRevocableToken
token_refusal = Err (whole cause.Refused)

-- the token, if exactly one of the two names has a value; both or neither are refused
abbrev pub one_of : Option Data → Option Data → Reading StandardRevocableToken
one_of (Some d) None =
    read_then (needed_member text (codes "AccessToken") (Some d)) (λ text. Ok (AccessToken text))
one_of None (Some d) =
    read_then (needed_member text (codes "RefreshToken") (Some d)) (λ text. Ok (RefreshToken text))
one_of (Some d) (Some e) = token_refusal
one_of None None = token_refusal

-- the same, where `rest` holds the other members of the object; any other member is refused
abbrev pub sole_token : Option Data → Option Data → Members → Reading StandardRevocableToken
sole_token access_token refresh_token rest =
    if has_any rest then token_refusal else one_of access_token refresh_token

-- reads a token from the members of an object
abbrev pub revocable_in : Members → Reading StandardRevocableToken
revocable_in ms =
    sole_token (get_member (codes "AccessToken") ms) (get_member (codes "RefreshToken") ms)
    (others (codes "AccessToken" ∷ codes "RefreshToken" ∷ []) ms)

-- reads a token from an object with one member, named `AccessToken` or `RefreshToken`
abbrev pub revocable_reading : Data → Reading StandardRevocableToken
revocable_reading d = read_then (members_of_object d) revocable_in

-- writes a token as an object with one member: the name of its variant and its text
abbrev pub revocable_writing : StandardRevocableToken → Writing
revocable_writing token = Ok (object (put (variant_of token) (string (secret_of token)) no_members))
