-- Where the connection to a place is.
use Rattle.std.specs.Prelude.{◌≡◌, ℕ, ◌<◌, List, length, Some, slice_index_or}
use Rattle.std.specs.List.{remove}
use Rattle.oauth2_http1.specs.Origin.{Place}
use Rattle.oauth2_http1_connections.specs.declared.idle.Idle.{Idle}
use Rattle.oauth2_http1_connections.specs.Idle.{find, without}

-- the first connection to the place is at this index
pub record IsFirstFor {S : Type 0} (place : Place) (kept : List (Idle S)) (index : ℕ) : Type 0 where
  pub inside : index < length kept
  pub found : (d : Idle S) → find place kept ≡ Some (slice_index_or kept index d).stream
  pub others : without place kept ≡ remove kept index
