-- The steps of a call: the clock, and the generator.
use Rattle.std.specs.Prelude.{◌≡◌, ℕ, List, length, Result, Ok, Err, Some, None}
use Rattle.jiff.specs.Types.{Timestamp}
use Rattle.oauth2_client_secret_jwt.specs.Assertion.{second_since_1970}
use Rattle.oauth2_client_secret_jwt.specs.declared.error.ClientSecretJwtError.{ClientSecretJwtError}
use Rattle.oauth2_client_secret_jwt.specs.declared.error.ClientSecretJwtError.TheVariants as error

-- the clock was read once; its second, or why there is none
abbrev pub ReadsSecond : {K KE RE : Type 0} → (K → Result Timestamp KE → K → Type 0) → K
    → Result ℕ (ClientSecretJwtError KE RE) → K → Type 0
ReadsSecond reads before (Ok second) after =
    (moment : Timestamp) × reads before (Ok moment) after × (second_since_1970 moment.nanosecond ≡ Some second)
ReadsSecond reads before (Err (error.Clock fault)) after = reads before (Err fault) after
ReadsSecond reads before (Err error.Before1970) after =
    (moment : Timestamp) × reads before (Ok moment) after × (second_since_1970 moment.nanosecond ≡ None)
ReadsSecond reads before (Err (error.Generator fault)) after = ⊥
ReadsSecond reads before (Err error.Memory) after = ⊥

-- the generator was called once; the 16 bytes that it drew, or its error
abbrev pub Draws : {R KE RE : Type 0} → (R → Result (List ℕ) RE → R → Type 0) → R
    → Result (List ℕ) (ClientSecretJwtError KE RE) → R → Type 0
Draws draws before (Ok drawn) after = draws before (Ok drawn) after × (length drawn ≡ 16)
Draws draws before (Err (error.Generator fault)) after = draws before (Err fault) after
Draws draws before (Err (error.Clock fault)) after = ⊥
Draws draws before (Err error.Before1970) after = ⊥
Draws draws before (Err error.Memory) after = ⊥
