-- Tables of codes.
use Rattle.std.proofs.Common.{◌≡◌, ℕ, List, [], ◌∷◌, Bool, true, false, cond, ◌&&◌, bytes_eq, refl, sym, ap, ◌∙◌}
use Rattle.std.proofs.lemmas.Slice.Eq.{bytes_eq-Decides}
use Rattle.oauth2_codes.specs.Codes.{code_in, TokenCode, extension, token_codes, token_code_text, token_code_of, canonical}
use Rattle.oauth2_codes.specs.ErrorCodes.{ErrorCode, extension as error_extension, error_codes, error_code_text, error_code_of, error_canonical, DeviceErrorCode, basic, device_error_codes, device_error_code_text, device_error_code_of, device_error_canonical, RevocationErrorCode, basic as revocation_basic, revocation_error_codes, revocation_error_code_text, revocation_error_code_of, revocation_error_canonical}
use Rattle.oauth2_codes.specs.AuthorizationCodes.{AuthorizationErrorCode, extension as authorization_extension, authorization_error_codes, authorization_error_code_text, authorization_error_code_of, authorization_error_canonical}

-- each code of a table is written as its own text
abbrev are_written : {C : Type 0} → (C → List ℕ) → List (List ℕ × C) → Bool
are_written text_of [] = true
are_written text_of (r ∷ rs) = bytes_eq (text_of r.1) r.0 && are_written text_of rs

both : (a b : Bool) → a && b ≡ true → (a ≡ true) × (b ≡ true)
both true b h = (refl, h)
both false b h = (h, cc)

at_row : {C : Type 0} (b : Bool) (text_of : C → List ℕ) (k s : List ℕ) (c later : C) → bytes_eq s k ≡ b → bytes_eq (text_of c) k ≡ true → text_of later ≡ s → text_of (cond b c later) ≡ s
at_row true text_of k s c later e w h = (bytes_eq-Decides (text_of c) k).0 w ∙ sym ((bytes_eq-Decides s k).0 e)
at_row false text_of k s c later e w h = h

text_of-code_in : {C : Type 0} (text_of : C → List ℕ) (rs : List (List ℕ × C)) (other : C) (s : List ℕ) → are_written text_of rs ≡ true → text_of other ≡ s → text_of (code_in rs other s) ≡ s
text_of-code_in text_of [] other s w h = h
text_of-code_in text_of (r ∷ rs) other s w h =
    let is = both (bytes_eq (text_of r.1) r.0) (are_written text_of rs) w in
    at_row (bytes_eq s r.0) text_of r.0 s r.1 (code_in rs other s) refl is.0 (text_of-code_in text_of rs other s is.1 h)

pub token_code_text-of : (s : List ℕ) → token_code_text (token_code_of s) ≡ s
token_code_text-of s = text_of-code_in token_code_text token_codes (extension s) s refl refl

pub canonical-canonical : (c : TokenCode) → canonical (canonical c) ≡ canonical c
canonical-canonical c = ap token_code_of (token_code_text-of (token_code_text c))

pub error_code_text-of : (s : List ℕ) → error_code_text (error_code_of s) ≡ s
error_code_text-of s = text_of-code_in error_code_text error_codes (error_extension s) s refl refl

pub error_canonical-canonical : (c : ErrorCode) → error_canonical (error_canonical c) ≡ error_canonical c
error_canonical-canonical c = ap error_code_of (error_code_text-of (error_code_text c))

pub device_error_code_text-of : (s : List ℕ) → device_error_code_text (device_error_code_of s) ≡ s
device_error_code_text-of s = text_of-code_in device_error_code_text device_error_codes (basic (error_code_of s)) s refl (error_code_text-of s)

pub device_error_canonical-canonical : (c : DeviceErrorCode) → device_error_canonical (device_error_canonical c) ≡ device_error_canonical c
device_error_canonical-canonical c = ap device_error_code_of (device_error_code_text-of (device_error_code_text c))

pub revocation_error_code_text-of : (s : List ℕ) → revocation_error_code_text (revocation_error_code_of s) ≡ s
revocation_error_code_text-of s = text_of-code_in revocation_error_code_text revocation_error_codes (revocation_basic (error_code_of s)) s refl (error_code_text-of s)

pub revocation_error_canonical-canonical : (c : RevocationErrorCode) → revocation_error_canonical (revocation_error_canonical c) ≡ revocation_error_canonical c
revocation_error_canonical-canonical c = ap revocation_error_code_of (revocation_error_code_text-of (revocation_error_code_text c))

pub authorization_error_code_text-of : (s : List ℕ) → authorization_error_code_text (authorization_error_code_of s) ≡ s
authorization_error_code_text-of s = text_of-code_in authorization_error_code_text authorization_error_codes (authorization_extension s) s refl refl

pub authorization_error_canonical-canonical : (c : AuthorizationErrorCode) → authorization_error_canonical (authorization_error_canonical c) ≡ authorization_error_canonical c
authorization_error_canonical-canonical c = ap authorization_error_code_of (authorization_error_code_text-of (authorization_error_code_text c))
