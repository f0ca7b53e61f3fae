-- A call that lends an answer is a call of the cache.
use Rattle.std.proofs.Common.{◌≡◌, ℕ, List, [], ◌∷◌, Option, Some, None, Result, Ok, Err, refl}
use Rattle.std.specs.Prelude.{ℤ, Bool, true, false}
use Rattle.oauth2_wire.specs.declared.content_type.ReplyRule.{ReplyRule}
use Rattle.oauth2_wire.specs.declared.error.RequestTokenError.{RequestTokenError}
use Rattle.oauth2_wire.specs.Request.{RequestView}
use Rattle.oauth2_introspection_cache.specs.Cache.{Cache, Outcome, CacheCalls, CacheAnswersOr}
use Rattle.oauth2_introspection_cache.specs.Runs.{CacheRuns, asked}

module _ {A D T RE C : Type 0} (asks : ReplyRule → (List ℕ → RequestView → Type 0) → List ℕ → C → Result D (RequestTokenError RE T) → C → Type 0)
    (is_active : D → Bool) (expires : D → Option ℤ) (Shows : D → A → Type 0) where
  one_run : (cache next : Cache D) (token : List ℕ) (now : ℤ) (before after : C) (result : Result Bool (RequestTokenError RE T))
      → CacheCalls asks is_active expires cache token now before result after next
      → (outcome : Outcome D) × CacheRuns asks is_active expires cache before (asked token now outcome ∷ []) after next
  one_run cache next token now before after result (outcome, is, kept) = (outcome, (result, after, is, (refl, kept)))

  pub is_a_run : (cache next : Cache D) (token : List ℕ) (now : ℤ) (before after : C) (lent : Option A) (fault : Option (RequestTokenError RE T))
      → CacheAnswersOr asks is_active expires Shows cache token now before lent fault after next
      → (outcome : Outcome D) × CacheRuns asks is_active expires cache before (asked token now outcome ∷ []) after next
  is_a_run cache next token now before after (Some value) fault (none, (call, shown)) = one_run cache next token now before after (Ok true) call
  is_a_run cache next token now before after None (Some error) call = one_run cache next token now before after (Err error) call
  is_a_run cache next token now before after None None call = one_run cache next token now before after (Ok false) call
