-- How a source makes an assertion.
use Rattle.std.specs.Prelude.{◌≡◌, ℕ, ◌+◌, pos, ◌≤ℤ◌, List, length, Result, Ok, Err, Some, None, IfOk, String, string_bytes}
use Rattle.std.specs.declared.alloc.Global.{Global}
use Rattle.jiff.specs.Types.{Timestamp}
use Rattle.oauth2_types.specs.Pkce.{base64url}
use Rattle.oauth2_client_secret_jwt.specs.Assertion.{claims_text, second_since_1970, signed_jwt}
use Rattle.oauth2_client_secret_jwt.specs.Audience.{audience_text}
use Rattle.oauth2_client_secret_jwt.specs.declared.audience.Audience.{Audience}
use Rattle.oauth2_client_secret_jwt.specs.declared.error.ClientSecretJwtError.{ClientSecretJwtError}
use Rattle.oauth2_client_secret_jwt.specs.declared.error.ClientSecretJwtError.TheVariants as error

-- a client and its secret, for whom its assertions are, after how many seconds each ends, a clock,
-- and a generator of random numbers
pub record Signer (K R : Type 0) : Type 0 where
  pub client_id : List ℕ
  pub client_secret : List ℕ
  pub audience : Audience
  pub lifetime : ℕ
  pub clock : K
  pub generator : R

-- the assertion that is made in this second since 1970, with the bytes that were drawn for `jti`
abbrev pub jwt_of : {K R : Type 0} → Signer K R → ℕ → List ℕ → List ℕ
jwt_of s second drawn =
    signed_jwt s.client_secret
    (claims_text s.client_id (audience_text s.audience) (base64url drawn) second (second + s.lifetime))

-- a clock of the runtime shows no time before 1970, and stays as it was
abbrev pub ShowsTimeSince1970 : {C E : Type 0} → C → Result Timestamp E → C → Type 0
ShowsTimeSince1970 before result after =
    (after ≡ before) × IfOk result (λ moment. pos 0 ≤ℤ moment.nanosecond)

-- the clock was read once, and showed a time in this second
abbrev pub IsReadOnce : {K R KE : Type 0} → (K → Result Timestamp KE → K → Type 0) → Signer K R → ℕ
    → Signer K R → Type 0
IsReadOnce reads before second after =
    (moment : Timestamp) × reads before.clock (Ok moment) after.clock × (second_since_1970 moment.nanosecond ≡ Some second)

-- the generator was called once, and drew these 16 bytes
abbrev pub IsDrawnOnce : {K R RE : Type 0} → (R → Result (List ℕ) RE → R → Type 0) → Signer K R
    → List ℕ → Signer K R → Type 0
IsDrawnOnce draws before drawn after =
    draws before.generator (Ok drawn) after.generator × (length drawn ≡ 16)

-- a generator of `rand_core` fills 16 bytes at once; it says nothing of a call that fails
abbrev pub FillsBytes : {R RE : Type 0} → (R → List ℕ → R → Type 0) → R → Result (List ℕ) RE → R
    → Type 0
FillsBytes fills before (Ok drawn) after = fills before drawn after × (length drawn ≡ 16)
FillsBytes fills before (Err fault) after = Unit {0}

-- nothing changed but the clock
abbrev pub KeepsAllButClock : {K R : Type 0} → Signer K R → Signer K R → Type 0
KeepsAllButClock before after = after ≡ record before { clock = after.clock }

-- nothing changed but the clock and the generator
abbrev pub KeepsSettings : {K R : Type 0} → Signer K R → Signer K R → Type 0
KeepsSettings before after =
    after ≡ record before { clock = after.clock; generator = after.generator }

module _ {K R KE RE : Type 0} (reads : K → Result Timestamp KE → K → Type 0) (draws : R → Result (List ℕ) RE → R → Type 0) where
  -- one call: the clock is read, and then the generator draws; without a time, it is not called
  abbrev pub Signs : Signer K R → Result (String Global) (ClientSecretJwtError KE RE) → Signer K R
      → Type 0
  Signs before (Ok text) after =
      (second : ℕ) × (drawn : List ℕ) × IsReadOnce reads before second after × IsDrawnOnce draws before drawn after
      × (string_bytes text ≡ jwt_of before second drawn) × KeepsSettings before after
  Signs before (Err (error.Clock fault)) after =
      reads before.clock (Err fault) after.clock × KeepsAllButClock before after
  Signs before (Err error.Before1970) after =
      (moment : Timestamp) × reads before.clock (Ok moment) after.clock × (second_since_1970 moment.nanosecond ≡ None)
      × KeepsAllButClock before after
  Signs before (Err (error.Generator fault)) after =
      (second : ℕ) × IsReadOnce reads before second after × draws before.generator (Err fault) after.generator
      × KeepsSettings before after
  Signs before (Err error.Memory) after =
      (second : ℕ) × (drawn : List ℕ) × IsReadOnce reads before second after × IsDrawnOnce draws before drawn after
      × KeepsSettings before after
