-- The request of a cache is that of its client.
use Rattle.std.proofs.Common.{◌≡◌, ℕ, List, Some, Result, subst}
use Rattle.url.specs.Parts.{serialize}
use Rattle.oauth2_wire.specs.declared.content_type.ReplyRule.{ReplyRule}
use Rattle.oauth2_wire.specs.declared.error.RequestTokenError.{RequestTokenError}
use Rattle.oauth2_wire.specs.Request.{RequestView, IsRequestOf}
use Rattle.oauth2_requests.specs.TokenIntrospection.{TokenIntrospection, introspection_configuration}
use Rattle.oauth2.specs.NewRequest.{new_introspection_request}
use Rattle.oauth2_introspection_cache.specs.Cache.{Cache, Introspects}

module _ {D T RE C : Type 0} (asks : ReplyRule → (List ℕ → RequestView → Type 0) → List ℕ → C → Result D (RequestTokenError RE T) → C → Type 0)
    (cache : Cache D) (token : List ℕ) (before : C) (answer : Result D (RequestTokenError RE T)) (after : C) where
  pub asks_by : (r : TokenIntrospection) → cache.client.introspection_url ≡ Some r.introspection_url → r ≡ new_introspection_request cache.client r.introspection_url token
      → asks r.base.reply_rule (IsRequestOf (introspection_configuration r)) (serialize r.introspection_url.url) before answer after → Introspects asks cache token before answer after
  asks_by r url new asked =
      (r.introspection_url, url, subst (λ (s : TokenIntrospection). asks s.base.reply_rule (IsRequestOf (introspection_configuration s)) (serialize r.introspection_url.url) before answer after) new asked)
