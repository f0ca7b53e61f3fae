-- A map that is ordered by use, over many calls.
use Rattle.std.specs.Prelude.{◌≡◌, ◌⊎◌, Bool, IsTrue, if◌then◌else◌, List, [], ◌∷◌, Option, Some, None}
use Rattle.std.specs.Map.{lookup, remove_entry, set_value}
use Rattle.lru.specs.LruCache.{LruCache, lru_cache, promoted, put_entries}

-- what happens to a map
pub data MapEvent (K V : Type 0) : Type 0 where
  -- a value is put under a key
  Put : K → V → MapEvent K V
  -- the value of a key is lent: it was this, and was left as this
  Lent : K → V → V → MapEvent K V
  -- a key is taken out
  Removed : K → MapEvent K V

-- the key that an event is about
abbrev pub key_of : {K V : Type 0} → MapEvent K V → K
key_of (Put key value) = key
key_of (Lent key found left) = key
key_of (Removed key) = key

-- the value that it leaves under that key
abbrev pub left_by : {K V : Type 0} → MapEvent K V → Option V
left_by (Put key value) = Some value
left_by (Lent key found left) = Some left
left_by (Removed key) = None

-- the entries after the value of the key that passes was lent, and left as this: the key was used last
abbrev pub after_lending : {K V : Type 0} → (K → Bool) → List (K × V) → V → List (K × V)
after_lending test entries left = set_value test (promoted test entries) left

module _ {K V : Type 0} (eq : K → K → Bool) where
  -- the map after an event
  abbrev pub after : LruCache K V → MapEvent K V → LruCache K V
  after map (Put key value) = lru_cache (put_entries eq map key value) map.cap
  after map (Lent key found left) = lru_cache (after_lending (eq key) map.entries left) map.cap
  after map (Removed key) = lru_cache (remove_entry (eq key) map.entries) map.cap

  -- a value is lent as it is found
  abbrev pub CanHappen : LruCache K V → MapEvent K V → Type 0
  CanHappen map (Put key value) = Unit {0}
  CanHappen map (Lent key found left) = lookup (eq key) map.entries ≡ Some found
  CanHappen map (Removed key) = Unit {0}

  abbrev pub IsRun : LruCache K V → List (MapEvent K V) → Type 0
  IsRun map [] = Unit {0}
  IsRun map (event ∷ events) = CanHappen map event × IsRun (after map event) events

  -- the map after all of them
  abbrev pub at_last : LruCache K V → List (MapEvent K V) → LruCache K V
  at_last map [] = map
  at_last map (event ∷ events) = at_last (after map event) events

  -- what was left under a key by these events, if this was left before them
  abbrev pub last_left : K → Option V → List (MapEvent K V) → Option V
  last_left key left [] = left
  last_left key left (event ∷ events) =
      last_left key (if eq key (key_of event) then left_by event else left) events

  -- an event lends what was left
  abbrev pub IsAsLeft : Option V → MapEvent K V → Type 0
  IsAsLeft left (Put key value) = Unit {0}
  IsAsLeft left (Lent key found now) = left ≡ Some found
  IsAsLeft left (Removed key) = Unit {0}

  -- the events about one key are those of a single value: each time it is lent, it is as it was left
  abbrev pub IsOwnRun : K → Option V → List (MapEvent K V) → Type 0
  IsOwnRun key left [] = Unit {0}
  IsOwnRun key left (event ∷ events) =
      (IsTrue (eq key (key_of event)) → IsAsLeft left event)
      × IsOwnRun key (if eq key (key_of event) then left_by event else left) events

module _ (V : Type 0) {K : Type 0} (eq : K → K → Bool) where
  -- so it is of each key, whatever happens to the others
  abbrev pub EachKeyHasItsOwnValue : Type 0
  EachKeyHasItsOwnValue =
      (map : LruCache K V) (events : List (MapEvent K V)) (key : K)
      → map.entries ≡ [] → IsRun eq map events → IsOwnRun eq key None events

  -- a look-up finds what was left, or nothing
  abbrev pub EachValueFoundWasLeft : Type 0
  EachValueFoundWasLeft =
      (map : LruCache K V) (events : List (MapEvent K V)) (key : K)
      → map.entries ≡ [] → IsRun eq map events
      → (lookup (eq key) (at_last eq map events).entries ≡ None)
      ⊎ (lookup (eq key) (at_last eq map events).entries ≡ last_left eq key None events)
