-- A request to which a source's assertion is added.
use Rattle.std.specs.Prelude.{◌≡◌, Result, Ok, Err, String, string_bytes}
use Rattle.std.specs.declared.alloc.Global.{Global}
use Rattle.oauth2_wire.specs.Request.{HttpRequest, RequestView, view_of}
use Rattle.oauth2_client_assertions.specs.Assertions.{assertion_pairs}
use Rattle.oauth2_client_assertions.specs.Requests.{IsExtended}
use Rattle.oauth2_client_assertions.specs.declared.assertion_type.AssertionType.{AssertionType}
use Rattle.oauth2_client_assertions.specs.declared.error.AssertingError.{AssertingError}
use Rattle.oauth2_client_assertions.specs.declared.error.AssertingError.TheVariants as error

module _ {E SE : Type 0} where
  -- the request with this assertion, or why there is none
  abbrev pub IsAsserted : AssertionType → RequestView → Result (String Global) SE
      → Result HttpRequest (AssertingError E SE) → Type 0
  IsAsserted kind request (Ok assertion) (Ok sent) =
      IsExtended (assertion_pairs kind (string_bytes assertion)) request (view_of sent)
  IsAsserted kind request (Ok assertion) (Err fault) = fault ≡ error.Memory
  IsAsserted kind request (Err why) (Ok sent) = ⊥
  IsAsserted kind request (Err why) (Err fault) = fault ≡ error.Source why

  -- the source is asked once, and its assertion is added
  abbrev pub Asks : {S : Type 0} → (S → Result (String Global) SE → S → Type 0)
      → AssertionType → RequestView → S → Result HttpRequest (AssertingError E SE) → S → Type 0
  Asks step kind request before result after =
      (assertion : Result (String Global) SE) × step before assertion after × IsAsserted kind request assertion result
