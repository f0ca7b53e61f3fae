-- What a cache of keepers is after a keeper was lent.
use Rattle.std.specs.Prelude.{Bool, Option}
use Rattle.std.specs.Borrow.{Fml, RattleType, MutBor, LendsIf}
use Rattle.std.specs.HashMap.Lent.{HashMembers}
use Rattle.lru.specs.LruCache.{lru_cache}
use Rattle.lru_laws.specs.Runs as runs
use Rattle.oauth2_token_cache.specs.declared.token_cache.TokenCache.{TokenCache}
use Rattle.oauth2_token_cache.specs.contracts.token_cache.TokenCache.{the_row}

module _ (K N : RattleType) (name : HashMembers N.Denot) where
  -- its keeper under the name that passes is the last that was left behind the reference, and was used last;
  -- if it has none, nothing changes
  abbrev pub LendsKeeper : MutBor (TokenCache K.Denot N.Denot) → (N.Denot → Bool)
      → Option (MutBor K.Denot) → Fml
  LendsKeeper cache test lent =
      LendsIf (the_row K N (record {}) (record { eq = name.eq }) (record { hash_input = name.hash_input })) K cache lent
      (λ left. record cache.now { keepers = lru_cache (runs.after_lending test cache.now.keepers.entries left) cache.now.keepers.cap })
      cache.now
