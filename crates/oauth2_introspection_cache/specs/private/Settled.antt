-- What a cache keeps after the answer to its request.
use Rattle.std.specs.Prelude.{◌≡◌, ℤ, Bool, true, false, List, ℕ, Result, Ok, Err}
use Rattle.oauth2_wire.specs.declared.content_type.ReplyRule.{ReplyRule}
use Rattle.oauth2_wire.specs.declared.error.RequestTokenError.{RequestTokenError}
use Rattle.oauth2_wire.specs.declared.error.RequestTokenError.TheVariants.{Memory}
use Rattle.oauth2_wire.specs.Request.{RequestView}
use Rattle.oauth2_introspection_cache.specs.Cache.{Cache, keeping, Introspects}

module _ {D T RE : Type 0} (is_active : D → Bool) where
  -- what a call for a token of which nothing is kept returns and keeps, by the answer to its request
  abbrev pub Settles : Cache D → List ℕ → ℤ → Result D (RequestTokenError RE T)
      → Result Bool (RequestTokenError RE T) → Cache D → Type 0
  Settles cache token now (Ok reply) (Ok true) next =
      (is_active reply ≡ true) × (next ≡ keeping cache token (record { answer = reply; asked_at = now }))
  Settles cache token now (Ok reply) (Ok false) next = (is_active reply ≡ false) × (next ≡ cache)
  Settles cache token now (Ok reply) (Err error) next =
      (is_active reply ≡ true) × (error ≡ Memory true) × (next ≡ cache)
  Settles cache token now (Err fault) (Ok active) next = ⊥
  Settles cache token now (Err fault) (Err error) next = (error ≡ fault) × (next ≡ cache)

module _ {D T RE C : Type 0} (is_active : D → Bool) (asks : ReplyRule → (List ℕ → RequestView → Type 0) → List ℕ → C → Result D (RequestTokenError RE T) → C → Type 0) where
  -- the server is asked, and what the call returns and keeps by the answer
  abbrev pub AsksAndSettles : Cache D → List ℕ → ℤ → C → Result Bool (RequestTokenError RE T) → C
      → Cache D → Type 0
  AsksAndSettles cache token now before result after next =
      (answer : Result D (RequestTokenError RE T)) × Introspects asks cache token before answer after × Settles is_active cache token now answer result next
