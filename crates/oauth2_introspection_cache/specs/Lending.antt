-- What a cache is once the answer that a call lent is given back.
use Rattle.std.specs.Prelude.{◌≡◌, ℕ, ℤ, Bool, List, [], Option, Result}
use Rattle.std.specs.Borrow.{Bor, Fml, MutBor, RattleType}
use Rattle.std.specs.Io.BufRead.{Rests}
use mir.Syntax.{named}
use Rattle.oauth2.specs.declared.endpoint.EndpointState.{Ghosts}
use Rattle.oauth2_wire.specs.declared.content_type.ReplyRule.{ReplyRule}
use Rattle.oauth2_wire.specs.declared.error.RequestTokenError.{RequestTokenError}
use Rattle.oauth2_wire.specs.Request.{RequestView}
use Rattle.oauth2_introspection_cache.specs.contracts.introspection_cache.IntrospectionCache.{the_row}
use Rattle.oauth2_introspection_cache.specs.Cache.{Cache, CacheAnswersOr}

module _ (TE TR TIR RT TRE A D R T : RattleType) (a : Ghosts A.Denot) (d : Ghosts D.Denot) (r : Ghosts R.Denot) (t : Ghosts T.Denot) where
  -- the cache's type: its lifetime `'a` follows that of `&mut self`
  abbrev pub cache_row : RattleType
  cache_row = the_row (record { mir = named 1; lft = [] }) TE TR TIR RT TRE A D R T a d r t

  module _ {E RE C : Type 0} (asks : ReplyRule → (List ℕ → RequestView → Type 0) → List ℕ → C → Result TIR.Denot (RequestTokenError RE E) → C → Type 0)
      (is_active : TIR.Denot → Bool) (expires : TIR.Denot → Option ℤ) where
    -- the answer that is lent is the one that is kept for the token after the call, and once it is given
    -- back the cache is as the call left it
    abbrev pub LendsAnswer : MutBor (Cache TIR.Denot) → List ℕ → ℤ → C → Option (Bor TIR.Denot)
        → Option (RequestTokenError RE E) → C → Fml
    LendsAnswer cache token now before lent fault after =
        Rests cache_row cache (CacheAnswersOr asks is_active expires (λ answer lent. lent.now ≡ answer) cache.now token now before lent fault after)
