-- The texts that `Display` writes for the faults.
use Rattle.std.specs.Prelude.{ℕ, List, codes}
use Rattle.oauth2_keys.specs.ErrorTexts.{signature_error_text}
use Rattle.oauth2_signed_tokens.specs.declared.access_tokens.fault.AccessTokenFault.{AccessTokenFault}
use Rattle.oauth2_signed_tokens.specs.declared.access_tokens.fault.AccessTokenFault.TheVariants as fault

-- the text for each rule that an access token can break
abbrev pub access_token_fault_text : AccessTokenFault → List ℕ
access_token_fault_text fault.OtherType = codes "the type is not that of an access token"
access_token_fault_text fault.OtherAlgorithm = codes "the algorithm is not the registered one"
access_token_fault_text fault.CriticalExtension =
    codes "the header has an extension that has to be understood"
access_token_fault_text fault.UnencodedPayload = codes "the payload is not encoded"
access_token_fault_text fault.OtherIssuer = codes "the issuer is another one"
access_token_fault_text fault.OtherAudience = codes "the resource server is not in the audience"
access_token_fault_text fault.Expired = codes "the token has expired"
access_token_fault_text fault.NotYetValid = codes "the token is not valid yet"
access_token_fault_text fault.SenderConstrained =
    codes "the token is bound to a key that was not proven"
access_token_fault_text (fault.Signature error) = signature_error_text error
