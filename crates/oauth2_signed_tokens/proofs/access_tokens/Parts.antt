-- A text that has three parts is not told to have none, nor to be too long.
use Rattle.std.proofs.Common.{Ok, Err, refl, ap}
use Rattle.oauth2_json.specs.Reading.{Reading}
use Rattle.oauth2_openid.specs.declared.read_error.TokenPart.TheVariants as part
use Rattle.oauth2_openid.specs.declared.read_error.IdTokenReadError.{IdTokenReadError}
use Rattle.oauth2_openid.specs.declared.read_error.IdTokenReadError.TheVariants as errors
use Rattle.oauth2_openid.specs.Token.{DecodedToken, TokenFault, TokenReading, TokenErrsAs, FindsParts, not_base64}
use Rattle.oauth2_openid.specs.Reading.{of_part, token_then}
use Rattle.oauth2_signed_tokens.specs.access_tokens.AccessToken.{OwnClaims, access_token, own_claims_in, own_reading}

abbrev fault_in : {A : Type 0} → TokenReading A → TokenFault
fault_in (Ok a) = not_base64 part.Header
fault_in (Err fault) = fault

claims_have_parts : (t : DecodedToken) (r : Reading OwnClaims) → FindsParts (token_then (of_part part.Payload r) (λ own. Ok (access_token t own)))
claims_have_parts t (Ok own) = (λ is. absurd (cc), λ is. absurd (cc))
claims_have_parts t (Err fault) = (λ is. absurd (cc), λ is. absurd (cc))

pub own_has_parts : (t : DecodedToken) → FindsParts (own_reading t)
own_has_parts t = claims_have_parts t (own_claims_in t.claims.others)

-- an error of the JSON Web Token is that of the access token
pub handed_on : (e : IdTokenReadError) (r : TokenReading DecodedToken) → TokenErrsAs e r → TokenErrsAs e (token_then r own_reading)
handed_on errors.TooLong r is = rw is refl
handed_on errors.NotThreeParts r is = rw is refl
handed_on (errors.NotBase64 which) r is = rw is refl
handed_on (errors.Fault which fault) r is = rw is refl
handed_on errors.Memory (Ok t) is = own_has_parts t
handed_on errors.Memory (Err fault) is = (λ same. is.0 (ap Err (ap fault_in same)), λ same. is.1 (ap Err (ap fault_in same)))
