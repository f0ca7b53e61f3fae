-- What is kept under each key after many events.
use Rattle.std.proofs.Common.{◌≡◌, inl, inr, Bool, true, cond, List, [], ◌∷◌, Option, Some, None, refl, sym, subst, ◌∙◌}
use Rattle.std.specs.Prelude.{IsSome}
use Rattle.std.specs.Cmp.{IsEquivalence}
use Rattle.std.specs.Map.{lookup}
use Rattle.lru.specs.LruCache.{LruCache, promoted}
use Rattle.lru_laws.specs.Runs.{MapEvent, Put, Lent, Removed, key_of, left_by, after, CanHappen, IsRun, at_last, last_left, IsAsLeft, IsOwnRun, EachKeyHasItsOwnValue, EachValueFoundWasLeft}
use Rattle.lru_laws.proofs.LastUse.{IsNoneOr, Tracks, same_class, lookup-promoted, tracks-promoted, tracks-removed, tracks-put, tracks-set, tracks-nothing}

module _ {K V : Type 0} {eq : K → K → Bool} (laws : IsEquivalence eq) where
  -- what is known of each key after one event
  abbrev knowing : (K → Option V) → MapEvent K V → K → Option V
  knowing known event key = cond (eq key (key_of event)) (left_by event) (known key)

  tracks-event : (map : LruCache K V) (event : MapEvent K V) (known : K → Option V) → CanHappen eq map event → Tracks eq map.entries known
      → Tracks eq (after eq map event).entries (knowing known event)
  tracks-event map (Put key value) known happens is = tracks-put laws map key value known is
  tracks-event map (Lent key found left) known happens is =
      tracks-set laws key (promoted (eq key) map.entries) left known
      (subst IsSome (sym (lookup-promoted laws key map.entries is.0 key ∙ happens)) refl)
      (tracks-promoted laws key map.entries known is)
  tracks-event map (Removed key) known happens is = tracks-removed laws key map.entries known is

  -- what is found and is something is what is known
  is_known : (found known : Option V) (v : V) → IsNoneOr found known → found ≡ Some v → known ≡ Some v
  is_known found known v (inl none) there = absurd (never (sym none ∙ there))
    where
      never : None ≡ Some v → ⊥
      never e = cc
  is_known found known v (inr same) there = sym same ∙ there

  as_left : (map : LruCache K V) (event : MapEvent K V) (known : K → Option V) (key : K) → CanHappen eq map event → Tracks eq map.entries known
      → eq key (key_of event) ≡ true → IsAsLeft eq (known key) event
  as_left map (Put k value) known key happens is same = tt
  as_left map (Lent k found left) known key happens is same =
      is_known (lookup (eq key) map.entries) (known key) found (is.1 key) (same_class laws key k same map.entries ∙ happens)
  as_left map (Removed k) known key happens is same = tt

  own : (map : LruCache K V) (events : List (MapEvent K V)) (known : K → Option V) (key : K) → Tracks eq map.entries known → IsRun eq map events
      → IsOwnRun eq key (known key) events
  own map [] known key is run = tt
  own map (event ∷ events) known key is (happens, rest) = (
    as_left map event known key happens is,
    own (after eq map event) events (knowing known event) key (tracks-event map event known happens is) rest,
  )

  ends : (map : LruCache K V) (events : List (MapEvent K V)) (known : K → Option V) (key : K) → Tracks eq map.entries known → IsRun eq map events
      → IsNoneOr (lookup (eq key) (at_last eq map events).entries) (last_left eq key (known key) events)
  ends map [] known key is run = is.1 key
  ends map (event ∷ events) known key is (happens, rest) =
      ends (after eq map event) events (knowing known event) key (tracks-event map event known happens is) rest

  begins : (map : LruCache K V) → map.entries ≡ [] → Tracks eq map.entries (λ _. None)
  begins map empty = subst (λ es. Tracks eq es (λ _. None)) (sym empty) (tracks-nothing {eq = eq} laws (λ _. None))

  pub has_its_own : EachKeyHasItsOwnValue V eq
  has_its_own map events key empty run = own map events (λ _. None) key (begins map empty) run

  pub found_was_left : EachValueFoundWasLeft V eq
  found_was_left map events key empty run = ends map events (λ _. None) key (begins map empty) run
