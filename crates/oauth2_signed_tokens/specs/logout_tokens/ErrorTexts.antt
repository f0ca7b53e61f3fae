-- The texts that `Display` writes for the faults.
use Rattle.std.specs.Prelude.{ℕ, List, codes}
use Rattle.oauth2_keys.specs.ErrorTexts.{signature_error_text}
use Rattle.oauth2_signed_tokens.specs.declared.logout_tokens.fault.LogoutTokenFault.{LogoutTokenFault}
use Rattle.oauth2_signed_tokens.specs.declared.logout_tokens.fault.LogoutTokenFault.TheVariants as fault

-- the text for each rule that a logout token can break
abbrev pub logout_token_fault_text : LogoutTokenFault → List ℕ
logout_token_fault_text fault.OtherType = codes "the type is not that of a logout token"
logout_token_fault_text fault.OtherAlgorithm = codes "the algorithm is not the registered one"
logout_token_fault_text fault.CriticalExtension =
    codes "the header has an extension that has to be understood"
logout_token_fault_text fault.UnencodedPayload = codes "the payload is not encoded"
logout_token_fault_text fault.OtherIssuer = codes "the issuer is another one"
logout_token_fault_text fault.OtherAudience = codes "the client is not in the audience"
logout_token_fault_text fault.UntrustedAudience = codes "an audience is not trusted"
logout_token_fault_text fault.Expired = codes "the token has expired"
logout_token_fault_text fault.IssuedLater = codes "the token was issued in the future"
logout_token_fault_text fault.NotYetValid = codes "the token is not valid yet"
logout_token_fault_text fault.NoSession = codes "the token names neither a user nor a session"
logout_token_fault_text fault.EmptyIdentifier = codes "an identifier is empty"
logout_token_fault_text fault.NoLogoutEvent = codes "the token has no logout event"
logout_token_fault_text fault.HasNonce = codes "the token has a nonce"
logout_token_fault_text (fault.Signature error) = signature_error_text error
