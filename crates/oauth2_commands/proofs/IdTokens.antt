-- The command `id_token`, from what was read and what was checked.
use Rattle.std.proofs.Common.{◌≡◌, ℤ, List, IsSomeAnd, Ok, Err, refl, subst}
use Rattle.oauth2.specs.Settings.{Settings}
use Rattle.oauth2_json.specs.ErrorTexts.{parse_fault_text, read_error_text}
use Rattle.oauth2_json.specs.Reading.{ErrsAs, Fault, Reading, fault_of}
use Rattle.oauth2_json.specs.declared.read.ReadError.{ReadError}
use Rattle.oauth2_json.specs.declared.read.ReadError.TheVariants as reading
use Rattle.oauth2_keys.specs.declared.json_web_key.ListedKey.{ListedKey}
use Rattle.oauth2_openid.specs.ErrorTexts.{id_token_read_error_text}
use Rattle.oauth2_openid.specs.Reading.{compact_token_reading}
use Rattle.oauth2_openid.specs.Token.{DecodedToken, TokenErrsAs, TokenReading}
use Rattle.oauth2_openid.specs.TokenRules.{token_checked}
use Rattle.oauth2_openid.specs.declared.read_error.IdTokenReadError.{IdTokenReadError}
use Rattle.oauth2_openid.specs.declared.read_error.IdTokenReadError.TheVariants as errors
use Rattle.oauth2_script.specs.IdTokenParams.{IdTokenParams}
use Rattle.oauth2_world.specs.Clock.{Clock, reading_of}
use Rattle.oauth2_world.specs.Events.{Event}
use Rattle.oauth2_world.specs.declared.event.FaultKind.TheVariants.{BadKeys, BadToken}
use Rattle.oauth2_commands.specs.IdToken.{IsCheckedOutput, IsIdTokenOutput, IsReadOutput, params_expectation, signature_algorithm, token_fault_text}
use Rattle.oauth2_commands.specs.private.ReadErrors.{token_fault_in}
use Rattle.oauth2_request_commands.specs.Out.{Output, failure_output, Adds, AddsOutput}
use Rattle.oauth2_request_commands.specs.declared.status.RunStatus.{RunStatus}

-- one output that is allowed, added
pub added : {IsOutput : Output → Type 0} (old new : List Event) (s : RunStatus) (o : Output) → IsOutput o → AddsOutput old new s o → Adds old new s IsOutput
added old new s o is printed = (o, is, printed.0, printed.1)

-- why a text is no token
pub read_error_shown : (error : IdTokenReadError) (old new : List Event) (s : RunStatus) → (error ≡ errors.Memory → ⊥)
    → AddsOutput old new s (failure_output BadToken (id_token_read_error_text error))
    → IsSomeAnd (token_fault_in error) (λ fault. AddsOutput old new s (failure_output BadToken (token_fault_text fault)))
read_error_shown errors.TooLong old new s other printed = printed
read_error_shown errors.NotThreeParts old new s other printed = printed
read_error_shown (errors.NotBase64 part) old new s other printed = printed
read_error_shown (errors.Fault part fault) old new s other printed = printed
read_error_shown errors.Memory old new s other printed = absurd (other refl)

-- the output of a text that reads to none
pub unread_shown : {T : Type 0} (IsShown : T → Output → Type 0) (error : IdTokenReadError) (read : TokenReading T) (old new : List Event) (s : RunStatus)
    → TokenErrsAs error read → IsSomeAnd (token_fault_in error) (λ fault. AddsOutput old new s (failure_output BadToken (token_fault_text fault)))
    → Adds old new s (IsReadOutput IsShown read)
unread_shown IsShown errors.TooLong read old new s tells printed = rw tells (added _ _ s _ refl printed)
unread_shown IsShown errors.NotThreeParts read old new s tells printed = rw tells (added _ _ s _ refl printed)
unread_shown IsShown (errors.NotBase64 part) read old new s tells printed = rw tells (added _ _ s _ refl printed)
unread_shown IsShown (errors.Fault part fault) read old new s tells printed = rw tells (added _ _ s _ refl printed)
unread_shown IsShown errors.Memory read old new s tells printed = absurd printed

-- why a value is no key set
pub keys_error_shown : (error : ReadError) (read : Reading (List ListedKey)) (old new : List Event) (s : RunStatus) → (error ≡ reading.Memory → ⊥) → ErrsAs error read
    → AddsOutput old new s (failure_output BadKeys (read_error_text error)) → (fault : Fault) × (read ≡ Err fault) × AddsOutput old new s (failure_output BadKeys (parse_fault_text fault))
keys_error_shown (reading.Fault f) read old new s other tells printed = (fault_of f, tells, printed)
keys_error_shown reading.Memory read old new s other tells printed = absurd (other refl)

module _ (client : Settings) (p : IdTokenParams) (clock : Clock) (old new : List Event) (s : RunStatus) where
  -- a text that reads to a token, of which the checks say this
  pub token_shown : (token : DecodedToken) (now : ℤ) → compact_token_reading p.id_token ≡ Ok token → now ≡ reading_of clock
      → Adds old new s (IsCheckedOutput p.keys (signature_algorithm p.algorithm) token (token_checked (params_expectation client p) p.access_token now token))
      → Adds old new s (IsIdTokenOutput client p clock)
  token_shown token now read at (o, is, grown, status) =
      let checked : IsCheckedOutput p.keys (signature_algorithm p.algorithm) token (token_checked (params_expectation client p) p.access_token (reading_of clock) token) o =
      subst (λ n. IsCheckedOutput p.keys (signature_algorithm p.algorithm) token (token_checked (params_expectation client p) p.access_token n token) o) at is in
      (o, rw read checked, grown, status)
