-- A text that has three parts is not told to have none, nor to be too long.
use Rattle.std.proofs.Common.{◌≡◌, ◌≢◌, ℕ, List, Option, Some, None, Result, Ok, Err, refl, ap}
use Rattle.std.specs.Prelude.{IsErrAnd}
use Rattle.serde_json.specs.Data.{Data}
use Rattle.oauth2_json.specs.Body.{body_reading}
use Rattle.oauth2_json.specs.Reading.{Reading}
use Rattle.oauth2_openid.specs.declared.read_error.TokenPart.{TokenPart}
use Rattle.oauth2_openid.specs.declared.read_error.TokenPart.TheVariants as part
use Rattle.oauth2_openid.specs.declared.read_error.IdTokenReadError.{IdTokenReadError}
use Rattle.oauth2_openid.specs.declared.read_error.IdTokenReadError.TheVariants as errors
use Rattle.oauth2_openid.specs.Token.{Header, WithOthers, Parts, TokenFault, TokenReading, TokenErrsAs, TokenReadsAs, FindsParts, not_base64, bytes_of}
use Rattle.oauth2_openid.specs.Reading.{header_reading, token_then, bytes_part, of_part, json_part, parts_reading}

abbrev fault_in : {A : Type 0} → TokenReading A → TokenFault
fault_in (Ok a) = not_base64 part.Header
fault_in (Err fault) = fault

then_parts : {A B : Type 0} (r : TokenReading A) (f : A → TokenReading B) → FindsParts r → ((a : A) → FindsParts (f a)) → FindsParts (token_then r f)
then_parts (Ok a) f h g = g a
then_parts (Err fault) f h g = (λ is. h.0 (ap Err (ap fault_in is)), λ is. h.1 (ap Err (ap fault_in is)))

bytes_parts : (which : TokenPart) (o : Option (List ℕ)) → FindsParts (bytes_part which o)
bytes_parts which None = (λ is. absurd (cc), λ is. absurd (cc))
bytes_parts which (Some bytes) = (λ is. absurd (cc), λ is. absurd (cc))

of_parts : {M : Type 0} (which : TokenPart) (r : Reading M) → FindsParts (of_part which r)
of_parts which (Ok m) = (λ is. absurd (cc), λ is. absurd (cc))
of_parts which (Err fault) = (λ is. absurd (cc), λ is. absurd (cc))

pub json_part_has_parts : {M : Type 0} (reading : Data → Reading M) (which : TokenPart) (encoded : List ℕ) → FindsParts (json_part reading which encoded)
json_part_has_parts reading which encoded =
    then_parts (bytes_part which (bytes_of encoded)) (λ bytes. of_part which (body_reading reading bytes))
    (bytes_parts which (bytes_of encoded)) (λ bytes. of_parts which (body_reading reading bytes))

-- and so for the whole token, whatever its claims are
module _ {C : Type 0} (reading : Data → Reading C) (p : Parts) where
  pub has_parts : FindsParts (parts_reading reading (Some p))
  has_parts =
      then_parts (json_part header_reading part.Header p.header) _ (json_part_has_parts header_reading part.Header p.header)
      (λ h. then_parts (json_part reading part.Payload p.payload) _ (json_part_has_parts reading part.Payload p.payload)
      (λ c. then_parts (bytes_part part.Signature (bytes_of p.signature)) _ (bytes_parts part.Signature (bytes_of p.signature)) (λ s. (λ is. absurd (cc), λ is. absurd (cc)))))

  -- an error of the payload is told where the header read
  pub in_claims : (h : WithOthers Header) (e : IdTokenReadError) → json_part header_reading part.Header p.header ≡ Ok h → TokenErrsAs e (json_part reading part.Payload p.payload) → TokenErrsAs e (parts_reading reading (Some p))
  in_claims h errors.TooLong read is = absurd ((json_part_has_parts reading part.Payload p.payload).0 is)
  in_claims h errors.NotThreeParts read is = absurd ((json_part_has_parts reading part.Payload p.payload).1 is)
  in_claims h (errors.NotBase64 which) read is = rw (read, is) refl
  in_claims h (errors.Fault which fault) read is = rw (read, is) refl
  in_claims h errors.Memory read is = has_parts

-- the error that is handed on
pub told : {T M : Type 0} (seen : T → M) (r : Result T IdTokenReadError) (e : IdTokenReadError) (expected : TokenReading M) → IsErrAnd r (λ given. given ≡ e) → TokenErrsAs e expected → TokenReadsAs seen r expected
told seen (Ok token) e expected h errs = absurd h
told seen (Err given) e expected h errs = rw h errs
