-- The texts of errors.
use Rattle.std.specs.Prelude.{ℕ, List, Option, Some, codes}
use Rattle.oauth2_client_secret_jwt.specs.declared.error.ClientSecretJwtError.{ClientSecretJwtError}
use Rattle.oauth2_client_secret_jwt.specs.declared.error.ClientSecretJwtError.TheVariants.{Clock, Before1970, Generator, Memory}
use Rattle.oauth2_client_secret_jwt.specs.declared.issuer_identifier.IssuerFault.{IssuerFault}
use Rattle.oauth2_client_secret_jwt.specs.declared.issuer_identifier.IssuerFault.TheVariants as fault

-- the text for a secret that is too short
abbrev pub too_short_text : List ℕ
too_short_text = codes "the client secret is shorter than 32 bytes"

-- the text of an error; an error of the clock or of the generator has its own text
abbrev pub client_secret_jwt_error_text : {K R : Type 0} → (K → Option (List ℕ))
    → (R → Option (List ℕ)) → ClientSecretJwtError K R → Option (List ℕ)
client_secret_jwt_error_text clock_text generator_text (Clock error) = clock_text error
client_secret_jwt_error_text clock_text generator_text Before1970 =
    Some (codes "the clock shows a time before 1970")
client_secret_jwt_error_text clock_text generator_text (Generator error) = generator_text error
client_secret_jwt_error_text clock_text generator_text Memory = Some (codes "out of memory")

-- the text of each reason why a text is no identifier of an issuer
abbrev pub issuer_fault_text : IssuerFault → List ℕ
issuer_fault_text fault.NotUrl = codes "issuer is not a URL"
issuer_fault_text fault.NotHttps = codes "issuer is not an https URL"
issuer_fault_text fault.HasQuery = codes "issuer has a query"
issuer_fault_text fault.HasFragment = codes "issuer has a fragment"
issuer_fault_text fault.Memory = codes "out of memory"
