-- A call of a cache by its parts.
use Rattle.std.proofs.Common.{◌≡◌, ℕ, inl, inr, List, Option, Some, None, Result, Ok, Err, refl, sym, subst}
use Rattle.std.specs.Prelude.{ℤ, Bool, true, false, IsTrue, IsSome, is_some}
use Rattle.oauth2_wire.specs.declared.content_type.ReplyRule.{ReplyRule}
use Rattle.oauth2_wire.specs.declared.error.RequestTokenError.{RequestTokenError}
use Rattle.oauth2_wire.specs.Request.{RequestView}
use Rattle.oauth2_introspection_cache.specs.Cache.{Cache, remembered, active, inactive, failed, good_answer, kept_answer, forgetting, promoting, Introspects, CacheCalls}
use Rattle.oauth2_introspection_cache.specs.private.Settled.{Settles, AsksAndSettles}
use Rattle.oauth2_introspection_cache.proofs.Kept.{still_kept}

module _ {D T RE C : Type 0} (asks : ReplyRule → (List ℕ → RequestView → Type 0) → List ℕ → C → Result D (RequestTokenError RE T) → C → Type 0)
    (is_active : D → Bool) (expires : D → Option ℤ)
    (cache : Cache D) (token : List ℕ) (now : ℤ) (before : C) where
  by_answer : (o : Option D) → good_answer expires cache token now ≡ o → IsTrue (is_some o)
      → CacheCalls asks is_active expires cache token now before (Ok true) before (promoting cache token) × IsSome (kept_answer (promoting cache token) token)
  by_answer None is good = cc
  by_answer (Some answer) is good = ((remembered answer, (is, refl, refl), refl), subst IsSome (sym (still_kept expires cache token now answer is)) refl)

  -- where a good answer is kept, nothing is sent
  pub remembers : IsTrue (is_some (good_answer expires cache token now))
      → CacheCalls asks is_active expires cache token now before (Ok true) before (promoting cache token) × IsSome (kept_answer (promoting cache token) token)
  remembers = by_answer (good_answer expires cache token now) refl

  none_of : (o : Option D) → is_some o ≡ false → o ≡ None
  none_of None is = refl
  none_of (Some answer) is = cc

  module _ (stale : is_some (good_answer expires cache token now) ≡ false) (after : C) where
    by_reply : (answer : Result D (RequestTokenError RE T)) → Introspects asks cache token before answer after
        → (result : Result Bool (RequestTokenError RE T)) (next : Cache D) → Settles is_active (forgetting cache token) token now answer result next
        → CacheCalls asks is_active expires cache token now before result after next
    by_reply (Ok reply) asked (Ok true) next is = (active reply, (none_of _ stale, refl, (is.0, asked)), is.1)
    by_reply (Ok reply) asked (Ok false) next is = (inactive, (none_of _ stale, refl, (reply, is.0, asked)), is.1)
    by_reply (Ok reply) asked (Err error) next is = (failed, (none_of _ stale, (error, refl, inr (is.1, (reply, is.0, asked)))), is.2)
    by_reply (Err fault) asked (Ok said) next is = absurd is
    by_reply (Err fault) asked (Err error) next is =
        (failed, (none_of _ stale, (error, refl, inl (subst (λ e. Introspects asks cache token before (Err e) after) (sym is.0) asked))), is.1)

    -- else the server is asked, and its answer is settled
    pub settled : (result : Result Bool (RequestTokenError RE T)) (next : Cache D)
        → AsksAndSettles is_active asks (forgetting cache token) token now before result after next
        → CacheCalls asks is_active expires cache token now before result after next
    settled result next (answer, asked, is) = by_reply answer asked result next is
