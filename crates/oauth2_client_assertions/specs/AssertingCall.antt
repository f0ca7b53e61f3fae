-- A call of a client that adds assertions.
use Rattle.std.specs.Prelude.{◌≡◌, ◌⊎◌, List, MatchBool, Result, Ok, Err, String, string_bytes}
use Rattle.std.specs.declared.alloc.Global.{Global}
use Rattle.http_uri.specs.declared.uri.Uri.{Uri}
use Rattle.oauth2_wire.specs.Reply.{HttpResponse}
use Rattle.oauth2_wire.specs.Request.{HttpRequest, view_of}
use Rattle.oauth2_client_assertions.specs.Assertions.{assertion_pairs}
use Rattle.oauth2_client_assertions.specs.Endpoints.{is_endpoint}
use Rattle.oauth2_client_assertions.specs.Requests.{authenticates, is_form_post, IsExtended}
use Rattle.oauth2_client_assertions.specs.declared.assertion_type.AssertionType.{AssertionType}
use Rattle.oauth2_client_assertions.specs.declared.error.AssertingError.{AssertingError}
use Rattle.oauth2_client_assertions.specs.declared.error.AssertingError.TheVariants as error

-- an inner client, the source of its assertions, the endpoints that they are for, and their type
pub record Asserter (C S : Type 0) : Type 0 where
  pub client : C
  pub source : S
  pub endpoints : List Uri
  pub assertion_type : AssertionType

module _ {E SE : Type 0} where
  -- what is returned for an answer of the inner client
  abbrev pub inner_result : Result HttpResponse E → Result HttpResponse (AssertingError E SE)
  inner_result (Ok reply) = Ok reply
  inner_result (Err fault) = Err (error.Client fault)

module _ {C E SE : Type 0} (step : C → HttpRequest → Result HttpResponse E → C → Type 0) where
  -- the inner client is called once, with this request
  abbrev pub Sends : C → HttpRequest → Result HttpResponse (AssertingError E SE) → C → Type 0
  Sends before sent result after =
      (answer : Result HttpResponse E)
      × step before sent answer after
      × (result ≡ inner_result answer)

  -- the request is sent with the assertion that the source returned; without one, or if memory runs
  -- out, it is not sent
  abbrev pub SendsWith : AssertionType → HttpRequest → Result (String Global) SE → C
      → Result HttpResponse (AssertingError E SE) → C → Type 0
  SendsWith kind request (Ok assertion) before result after =
      ((sent : HttpRequest) × IsExtended (assertion_pairs kind (string_bytes assertion)) (view_of request) (view_of sent) × Sends before sent result after)
      ⊎ ((result ≡ Err error.Memory) × (after ≡ before))
  SendsWith kind request (Err fault) before result after =
      (result ≡ Err (error.Source fault)) × (after ≡ before)

module _ {C S E SE : Type 0} (step : C → HttpRequest → Result HttpResponse E → C → Type 0) (asks : S → Result (String Global) SE → S → Type 0) where
  -- the source is asked once, and the request is sent with its assertion
  abbrev pub Asserts : Asserter C S → HttpRequest → Result HttpResponse (AssertingError E SE)
      → Asserter C S → Type 0
  Asserts before request result after =
      (assertion : Result (String Global) SE) × asks before.source assertion after.source
      × SendsWith step before.assertion_type request assertion before.client result after.client

  -- nothing is asked or sent, for this cause
  abbrev pub Refuses : AssertingError E SE → Asserter C S → Result HttpResponse (AssertingError E SE)
      → Asserter C S → Type 0
  Refuses cause before result after = (result ≡ Err cause) × (after ≡ before)

  -- a POST of a form gets an assertion if it goes to an endpoint of the server, and does not
  -- authenticate the client yet (RFC 6749, 2.3)
  abbrev pub AssertsOrRefuses : Asserter C S → HttpRequest
      → Result HttpResponse (AssertingError E SE) → Asserter C S → Type 0
  AssertsOrRefuses before request result after =
      MatchBool (is_endpoint before.endpoints (view_of request).target)
      (MatchBool (authenticates (view_of request)) (Refuses error.OtherAuthentication before result after) (Asserts before request result after))
      (Refuses error.OtherTarget before result after)

  -- the request is sent as it is
  abbrev pub Passes : Asserter C S → HttpRequest → Result HttpResponse (AssertingError E SE)
      → Asserter C S → Type 0
  Passes before request result after =
      Sends step before.client request result after.client × (after.source ≡ before.source)

  -- one call: each POST of a form gets an assertion or is refused
  abbrev pub CallsAsserting : Asserter C S → HttpRequest → Result HttpResponse (AssertingError E SE)
      → Asserter C S → Type 0
  CallsAsserting before request result after =
      (after.endpoints ≡ before.endpoints) × (after.assertion_type ≡ before.assertion_type)
      × MatchBool (is_form_post (view_of request)) (AssertsOrRefuses before request result after) (Passes before request result after)
