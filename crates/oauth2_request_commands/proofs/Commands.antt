-- The commands, from their requests.
use Rattle.std.proofs.Common.{◌≡◌, ◌⊎◌, inl, inr, ℕ, List, Bool, true, false, Option, Some, None, Result, codes, refl, ap}
use Rattle.std.specs.Prelude.{IfSome, IfNone, IfOk}
use Rattle.std.specs.declared.alloc.AllocError.{AllocError}
use Rattle.std.proofs.lemmas.Result.{IfOk-weaker}
use Rattle.std.specs.Str.{bytes_eq}
use Rattle.std.proofs.lemmas.Slice.Eq.{bytes_eq-Decides}
use Rattle.oauth2_requests.specs.TokenRevocation.{IsHttps}
use Rattle.oauth2_urls.specs.Addressed.{Addressed}
use Rattle.oauth2_request_commands.specs.Client.{WithEndpoint, missing, given_or}
use Rattle.oauth2_request_commands.specs.Out.{Output, AddsOutput, Adds}
use Rattle.oauth2_request_commands.specs.Revoke.{WithHttps, insecure}
use Rattle.oauth2_wire.specs.ConfigurationError.{IsInsecureUrl, IsMissingUrl}
use Rattle.oauth2_wire.specs.declared.error.ConfigurationError.{ConfigurationError}
use Rattle.oauth2_wire.specs.declared.error.ConfigurationError.TheVariants.{MissingUrl, InsecureUrl}
use Rattle.oauth2_request_commands.specs.Faults.{configuration_output}
use Rattle.oauth2_world.specs.Events.{Event}
use Rattle.oauth2_request_commands.specs.declared.status.RunStatus.{RunStatus}

missing_is : (name : List ℕ) (e : ConfigurationError) → IsMissingUrl name e → configuration_output e ≡ missing name
missing_is name (MissingUrl given) h = ap missing h
missing_is name (InsecureUrl given) h = absurd h

insecure_is : (name : List ℕ) (e : ConfigurationError) → IsInsecureUrl name e → configuration_output e ≡ insecure name
insecure_is name (MissingUrl given) h = absurd h
insecure_is name (InsecureUrl given) h = ap insecure h

-- there is no endpoint of this name
pub missing_told : (name : List ℕ) (IsOut : Addressed → Output → Type 0) (url : Option Addressed) (old new : List Event) (s : RunStatus) (e : ConfigurationError)
    → IfSome url (λ _. ⊥) → IfNone url (IsMissingUrl name e) → AddsOutput old new s (configuration_output e) → Adds old new s (WithEndpoint name IsOut url)
missing_told name IsOut (Some url) old new s e h m p = absurd h
missing_told name IsOut None old new s e h m p = let told : AddsOutput old new s (missing name) = rw (missing_is name e m) at p in (missing name, refl, told.0, told.1)

-- what is shown of a request that is made for the URL of the endpoint
pub command_told : (name : List ℕ) (IsAsked : Output → Type 0)
    (IsOut : Addressed → Output → Type 0) (IsMade : Addressed → Type 0) (url : Option Addressed)
    (old new : List Event) (s : RunStatus)
    → IfSome url IsMade → IfNone url ⊥ → Adds old new s IsAsked
    → ((u : Addressed) → IsMade u → (o : Output) → IsAsked o → IsOut u o)
    → Adds old new s (WithEndpoint name IsOut url)
command_told name IsAsked IsOut IsMade None old new s there missing adds shows = absurd missing
command_told name IsAsked IsOut IsMade (Some u) old new s there missing adds shows =
    (adds.0, shows u there adds.0 adds.1, adds.2, adds.3)

https_by : (url : Addressed) (b : Bool) → bytes_eq url.url.scheme (codes "https") ≡ b → IsHttps url ⊎ (¬ (IsHttps url))
https_by url true e = inl ((bytes_eq-Decides url.url.scheme (codes "https")).0 e)
https_by url false e = inr (λ is. let same : bytes_eq url.url.scheme (codes "https") ≡ true = (bytes_eq-Decides url.url.scheme (codes "https")).1 is in cc)

https_or_not : (url : Addressed) → IsHttps url ⊎ (¬ (IsHttps url))
https_or_not url = https_by url (bytes_eq url.url.scheme (codes "https")) refl

-- there is no `https` endpoint of this name
pub refusal_told : (name : List ℕ) (IsOut : Addressed → Output → Type 0) (url : Option Addressed) (old new : List Event) (s : RunStatus) (e : ConfigurationError)
    → IfSome url (λ u. IsHttps u → ⊥) → IfSome url (λ u. ¬ (IsHttps u) → IsInsecureUrl name e) → IfNone url (IsMissingUrl name e)
    → AddsOutput old new s (configuration_output e) → Adds old new s (WithEndpoint name (WithHttps name IsOut) url)
refusal_told name IsOut None old new s e secure is_insecure is_missing p = missing_told name (WithHttps name IsOut) None old new s e tt is_missing p
refusal_told name IsOut (Some u) old new s e secure is_insecure is_missing p = go (https_or_not u)
  where
    go : (IsHttps u ⊎ (¬ (IsHttps u))) → Adds old new s (WithEndpoint name (WithHttps name IsOut) (Some u))
    go (inl https) = absurd (secure https)
    go (inr other) = let told : AddsOutput old new s (insecure name) = rw (insecure_is name e (is_insecure other)) at p in (insecure name, inr (other, refl), told.0, told.1)

-- what is shown of a request that is made for the URL of the endpoint if that is an `https` URL
pub https_told : (name : List ℕ) (IsAsked : Output → Type 0)
    (IsOut : Addressed → Output → Type 0) (IsMade : Addressed → Type 0) (url : Option Addressed)
    (old new : List Event) (s : RunStatus)
    → IfSome url (λ u. IsHttps u → IsMade u) → IfSome url (λ u. ¬ (IsHttps u) → ⊥) → IfNone url ⊥
    → Adds old new s IsAsked → ((u : Addressed) → IsMade u → (o : Output) → IsAsked o → IsOut u o)
    → Adds old new s (WithEndpoint name (WithHttps name IsOut) url)
https_told name IsAsked IsOut IsMade None old new s secure is_insecure missing adds shows =
    absurd missing
https_told name IsAsked IsOut IsMade (Some u) old new s secure is_insecure missing adds shows =
    go (https_or_not u)
  where
    go : (IsHttps u ⊎ (¬ (IsHttps u))) → Adds old new s (WithEndpoint name (WithHttps name IsOut) (Some u))
    go (inr other) = absurd (is_insecure other)
    go (inl https) = (adds.0, inl (https, shows u (secure https) adds.0 adds.1), adds.2, adds.3)

pub given_or-none : {A : Type 0} (o : Option A) → given_or o None ≡ o
given_or-none None = refl
given_or-none (Some a) = refl

-- ---- a whole command, from what its last call ensures; `Fed` says that the client had memory

module _ (Fed : Type 0) (name : List ℕ) (url : Option Addressed) (old new : List Event)
    (result : Result RunStatus AllocError) where
  abbrev Shows : (Output → Type 0) → Type 0
  Shows IsOut = IfOk result (λ s. Fed → Adds old new s IsOut)

  pub request_told : (IsAsked : Output → Type 0) (IsOut : Addressed → Output → Type 0)
      (IsMade : Addressed → Type 0) → IfSome url IsMade → IfNone url ⊥ → Shows IsAsked
      → ((u : Addressed) → IsMade u → (o : Output) → IsAsked o → IsOut u o)
      → Shows (WithEndpoint name IsOut url)
  request_told IsAsked IsOut IsMade there missing told shows =
      IfOk-weaker result _ _
      (λ s adds. λ fed.
      command_told name IsAsked IsOut IsMade url old new s there missing (adds fed) shows)
      told

  pub no_endpoint_told : (IsOut : Addressed → Output → Type 0) (e : ConfigurationError)
      → IfSome url (λ _. ⊥) → IfNone url (IsMissingUrl name e)
      → IfOk result (λ s. AddsOutput old new s (configuration_output e))
      → Shows (WithEndpoint name IsOut url)
  no_endpoint_told IsOut e there missing told =
      IfOk-weaker result _ _
      (λ s adds. λ fed. missing_told name IsOut url old new s e there missing adds) told
