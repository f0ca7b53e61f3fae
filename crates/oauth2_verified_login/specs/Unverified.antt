-- The end of a login, before and after its signature is checked.
use Rattle.std.specs.Prelude.{◌≡◌, ℕ, List, ◌++◌, codes, Result, Ok, Err}
use Rattle.oauth2_openid.specs.Seen.{token_of}
use Rattle.oauth2_keys.specs.declared.signature_error.SignatureError.{SignatureError}
use Rattle.oauth2_keys.specs.ErrorTexts.{signature_error_text}
use Rattle.oauth2_openid_login.specs.declared.login_end.OpenIdLoginEnd.{OpenIdLoginEnd}
use Rattle.oauth2_keys.specs.Signature.{Check, IsSigned, IsSignatureRefusal}

-- the end of a login whose ID token has a refused signature, and why it is refused
pub record Unverified (D : Type 0) : Type 0 where
  pub end : OpenIdLoginEnd D
  pub error : SignatureError

module _ {D : Type 0} where
  -- the check returns the end unchanged: as a verified one if its ID token is signed, and else with
  -- the reason why the signature is refused
  abbrev pub Verifies : Check → OpenIdLoginEnd D → Result (OpenIdLoginEnd D) (Unverified D) → Type 0
  Verifies check end (Ok verified) = (verified ≡ end) × IsSigned check (token_of end.id_token)
  Verifies check end (Err unverified) =
      (unverified.end ≡ end) × IsSignatureRefusal check (token_of end.id_token) unverified.error

-- the text for a login whose ID token has a refused signature: why it is refused
abbrev pub unverified_text : SignatureError → List ℕ
unverified_text error = codes "ID token: " ++ signature_error_text error
