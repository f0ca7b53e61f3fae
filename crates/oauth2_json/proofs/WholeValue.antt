-- A body that is, or is not, one whole JSON value.
use Rattle.std.proofs.Common.{◌≡◌, ℕ, List, Bool, true, false, cond, Some, None, Err, IsUtf8, refl, ap, ◌∙◌}
use Rattle.std.specs.Str.{is_utf8}
use Rattle.std.proofs.lemmas.Str.{IsUtf8-from_is_utf8, is_utf8-from_IsUtf8}
use Rattle.serde_json.specs.Data.{Data}
use Rattle.serde_json.specs.Read.{read}
use Rattle.oauth2_json.specs.Reading.{Reading, Fault, IsFault, ErrsAs, whole}
use Rattle.oauth2_json.specs.Body.{body_reading, value_reading}
use Rattle.oauth2_json.specs.declared.read.ReadError.{ReadError}
use Rattle.oauth2_json.specs.declared.read.ReadError.TheVariants as errors
use Rattle.oauth2_json.specs.declared.read.ParseCause.TheVariants as cause

pub body_reading-whole : {M : Type 0} (reading : Data → Reading M) (bytes : List ℕ) (d : Data) → IsUtf8 bytes → read bytes ≡ Some d → body_reading reading bytes ≡ reading d
body_reading-whole reading bytes d u e = rw (is_utf8-from_IsUtf8 bytes u, e) refl

no_value : {M : Type 0} (b : Bool) (reading : Data → Reading M) (bytes : List ℕ) → is_utf8 bytes ≡ b → (IsUtf8 bytes → read bytes ≡ None) → cond b (value_reading reading (read bytes)) (Err (whole cause.NotJson)) ≡ Err (whole cause.NotJson)
no_value true reading bytes u h = rw (h (IsUtf8-from_is_utf8 bytes u)) refl
no_value false reading bytes u h = refl

pub body_reading-not_json : {M : Type 0} (reading : Data → Reading M) (bytes : List ℕ) → (IsUtf8 bytes → read bytes ≡ None) → body_reading reading bytes ≡ Err (whole cause.NotJson)
body_reading-not_json reading bytes h = no_value (is_utf8 bytes) reading bytes refl h

-- a fault is that of the reading
pub errs_as : {M : Type 0} (e : ReadError) (f : Fault) (r : Reading M) → r ≡ Err f → IsFault e f → ErrsAs e r
errs_as errors.Memory f r is h = tt
errs_as (errors.Fault g) f r is h = is ∙ ap Err h
