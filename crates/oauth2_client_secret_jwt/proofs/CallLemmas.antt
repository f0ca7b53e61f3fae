-- A call of a source: its steps, one after the other.
use Rattle.std.proofs.Common.{◌≡◌, ℕ, List, length, Result, Ok, Err, refl, subst, string_bytes}
use Rattle.std.specs.Prelude.{String}
use Rattle.std.specs.declared.alloc.Global.{Global}
use Rattle.jiff.specs.Types.{Timestamp}
use Rattle.oauth2_client_secret_jwt.specs.Signing.{Signer, Signs, jwt_of}
use Rattle.oauth2_client_secret_jwt.specs.private.Steps.{Draws, ReadsSecond}
use Rattle.oauth2_client_secret_jwt.specs.declared.error.ClientSecretJwtError.{ClientSecretJwtError}
use Rattle.oauth2_client_secret_jwt.specs.declared.error.ClientSecretJwtError.TheVariants as error

module _ {K R KE RE : Type 0} (reads : K → Result Timestamp KE → K → Type 0) (draws : R → Result (List ℕ) RE → R → Type 0) where
  -- ---- from what the source held

  read_failed : (held : Signer K R) (clock : K) (fault : ClientSecretJwtError KE RE) → ReadsSecond reads held.clock (Err fault) clock
      → Signs reads draws held (Err fault) (record held { clock = clock })
  read_failed held clock (error.Clock why) read = (read, refl)
  read_failed held clock error.Before1970 read = (read.0, read.1, read.2, refl)
  read_failed held clock (error.Generator why) read = absurd read
  read_failed held clock error.Memory read = absurd read

  draw_failed : (held : Signer K R) (clock : K) (generator : R) (second : ℕ) (fault : ClientSecretJwtError KE RE)
      → ReadsSecond {RE = RE} reads held.clock (Ok second) clock → Draws draws held.generator (Err fault) generator
      → Signs reads draws held (Err fault) (record held { clock = clock; generator = generator })
  draw_failed held clock generator second (error.Clock why) read drew = absurd drew
  draw_failed held clock generator second error.Before1970 read drew = absurd drew
  draw_failed held clock generator second (error.Generator why) read drew = (second, read, drew, refl)
  draw_failed held clock generator second error.Memory read drew = absurd drew

  -- ---- from what callers saw of it

  pub no_time : {held before : Signer K R} (clock : K) (fault : ClientSecretJwtError KE RE) → held ≡ before
      → ReadsSecond reads held.clock (Err fault) clock → Signs reads draws before (Err fault) (record held { clock = clock })
  no_time {held = held} clock fault same read =
      subst (λ (b : Signer K R). Signs reads draws b (Err fault) (record held { clock = clock })) same (read_failed held clock fault read)

  pub no_bytes : {held before : Signer K R} (clock : K) (generator : R) (second : ℕ) (fault : ClientSecretJwtError KE RE) → held ≡ before
      → ReadsSecond {RE = RE} reads held.clock (Ok second) clock → Draws draws held.generator (Err fault) generator
      → Signs reads draws before (Err fault) (record held { clock = clock; generator = generator })
  no_bytes {held = held} clock generator second fault same read drew =
      subst (λ (b : Signer K R). Signs reads draws b (Err fault) (record held { clock = clock; generator = generator })) same
      (draw_failed held clock generator second fault read drew)

pub signs : {K R KE : Type 0} (RE : Type 0) (reads : K → Result Timestamp KE → K → Type 0) (draws : R → Result (List ℕ) RE → R → Type 0)
    {held before : Signer K R} (clock : K) (generator : R) (second : ℕ) (drawn : List ℕ) (text : String Global) → held ≡ before
    → ReadsSecond {RE = RE} reads held.clock (Ok second) clock → Draws {KE = KE} {RE = RE} draws held.generator (Ok drawn) generator
    → string_bytes text ≡ jwt_of held second drawn
    → Signs {RE = RE} reads draws before (Ok text) (record held { clock = clock; generator = generator })
signs {K = K} {R = R} RE reads draws {held = held} clock generator second drawn text same read drew is =
    subst (λ (b : Signer K R). Signs {RE = RE} reads draws b (Ok text) (record held { clock = clock; generator = generator })) same
    (second, drawn, read, drew, is, refl)

pub no_memory : {K R KE : Type 0} (RE : Type 0) (reads : K → Result Timestamp KE → K → Type 0) (draws : R → Result (List ℕ) RE → R → Type 0)
    {held before : Signer K R} (clock : K) (generator : R) (second : ℕ) (drawn : List ℕ) → held ≡ before
    → ReadsSecond {RE = RE} reads held.clock (Ok second) clock → Draws {KE = KE} {RE = RE} draws held.generator (Ok drawn) generator
    → Signs {RE = RE} reads draws before (Err error.Memory) (record held { clock = clock; generator = generator })
no_memory {K = K} {R = R} RE reads draws {held = held} clock generator second drawn same read drew =
    subst (λ (b : Signer K R). Signs {RE = RE} reads draws b (Err error.Memory) (record held { clock = clock; generator = generator })) same
    (second, drawn, read, drew, refl)
