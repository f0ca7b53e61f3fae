-- The texts that `Display` writes for the errors.
use Rattle.std.specs.Prelude.{ℕ, List, ◌++◌, codes}
use Rattle.oauth2_json.specs.ErrorTexts.{parse_fault_text}
use Rattle.oauth2_json.specs.Reading.{fault_of}
use Rattle.oauth2_openid.specs.declared.read_error.TokenPart.{TokenPart}
use Rattle.oauth2_openid.specs.declared.read_error.TokenPart.TheVariants as part
use Rattle.oauth2_openid.specs.declared.read_error.IdTokenReadError.{IdTokenReadError}
use Rattle.oauth2_openid.specs.declared.read_error.IdTokenReadError.TheVariants as reading
use Rattle.oauth2_openid.specs.declared.claims_error.ClaimsError.{ClaimsError}
use Rattle.oauth2_openid.specs.declared.claims_error.ClaimsError.TheVariants as errors

-- the name of a part of a token, as the error texts have it
abbrev pub part_text : TokenPart → List ℕ
part_text part.Header = codes "header"
part_text part.Payload = codes "payload"
part_text part.Signature = codes "signature"

-- the text for each reason why a text is no ID token: the part, and what is wrong with it
abbrev pub id_token_read_error_text : IdTokenReadError → List ℕ
id_token_read_error_text reading.TooLong = codes "too long"
id_token_read_error_text reading.NotThreeParts = codes "not three parts"
id_token_read_error_text (reading.NotBase64 part) = part_text part ++ codes ": not base64url"
id_token_read_error_text (reading.Fault part fault) =
    part_text part ++ codes ": " ++ parse_fault_text (fault_of fault)
id_token_read_error_text reading.Memory = codes "out of memory"

-- the text for each rule that an ID token can break
abbrev pub claims_error_text : ClaimsError → List ℕ
claims_error_text errors.NoSignature = codes "the token has no signature"
claims_error_text errors.OtherAlgorithm = codes "the algorithm is not the registered one"
claims_error_text errors.CriticalExtension =
    codes "the header has an extension that has to be understood"
claims_error_text errors.UnencodedPayload = codes "the payload is not encoded"
claims_error_text errors.OtherType = codes "the type is not that of an ID token"
claims_error_text errors.OtherIssuer = codes "the issuer is another one"
claims_error_text errors.NoSubject = codes "the subject is empty"
claims_error_text errors.OtherAudience = codes "the client is not in the audience"
claims_error_text errors.UntrustedAudience = codes "an audience is not trusted"
claims_error_text errors.NoAuthorizedParty = codes "several audiences, and no authorized party"
claims_error_text errors.OtherAuthorizedParty = codes "the authorized party is another one"
claims_error_text errors.Expired = codes "the token has expired"
claims_error_text errors.IssuedLater = codes "the token was issued in the future"
claims_error_text errors.NoNonce = codes "the token has no nonce"
claims_error_text errors.NonceNotSent = codes "the token has a nonce, and none was sent"
claims_error_text errors.OtherNonce = codes "the nonce is another one"
claims_error_text errors.NoAuthTime = codes "the token does not say when the user logged in"
claims_error_text errors.AuthLater = codes "the user logged in in the future"
claims_error_text errors.AuthTooOld = codes "the user logged in too long ago"
claims_error_text errors.NotYetValid = codes "the token is not valid yet"
claims_error_text errors.OtherAccessToken = codes "the hash is that of another access token"
