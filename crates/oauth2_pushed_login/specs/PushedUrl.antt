-- A login whose parameters are pushed: what is sent, and the URL that the user is sent to.
use Rattle.std.specs.Prelude.{◌≡◌, ◌⊎◌, ◌↔◌, ℕ, List, Option, Some, None, Result, Ok, Err}
use Rattle.serde_json.specs.Data.{Data}
use Rattle.url.specs.Parts.{Parts, serialize}
use Rattle.url.specs.Parser.{IsOutOfRoom}
use Rattle.url.specs.Setters.{append_query_pairs}
use Rattle.url.specs.declared.error.ParseError.TheVariants.{Overflow}
use Rattle.oauth2.specs.Settings.{Settings}
use Rattle.oauth2_form.specs.Pairs.{Pair}
use Rattle.oauth2_form.specs.Query.{ExtendsQuery}
use Rattle.oauth2_json.specs.Reading.{Reading}
use Rattle.oauth2_requests.specs.Authorization.{IsTooLong}
use Rattle.oauth2_urls.specs.Addressed.{Addressed}
use Rattle.oauth2_wire.specs.Once.{AsksOnce}
use Rattle.oauth2_wire.specs.Reply.{HttpResponse}
use Rattle.oauth2_wire.specs.Request.{HttpRequest, IsRequestOf}
use Rattle.oauth2_wire.specs.declared.error.RequestTokenError.{RequestTokenError}
use Rattle.oauth2_pushed_requests.specs.Parameters.{added_pairs, push_fault}
use Rattle.oauth2_pushed_requests.specs.Pushed.{PushedRequest, PushingClientView, pushed_answer_of, pushed_configuration, reference_pairs}
use Rattle.oauth2_pushed_requests.specs.Response.{PushedAuthorization}
use Rattle.oauth2_pushed_requests.specs.declared.push_fault.PushFault.{PushFault}
use Rattle.oauth2_pushed_requests.specs.declared.push_fault.PushFault.TheVariants as fault
use Rattle.oauth2_pushed_login.specs.declared.push_login_error.PushLoginError.{PushLoginError}
use Rattle.oauth2_pushed_login.specs.declared.push_login_error.PushLoginError.TheVariants as error

-- the settings of a client for logins, and the endpoint that it pushes to
pub record PushingLogin : Type 0 where
  pub client : Settings
  pub endpoint : Parts

-- who pushes: that client with this secret, at that endpoint
abbrev pub pushing_client : PushingLogin → Option (List ℕ) → PushingClientView
pushing_client login secret = record {
  auth_type = login.client.auth_type;
  client_id = login.client.client_id;
  client_secret = secret;
  reply_rule = login.client.reply_rule;
  endpoint = login.endpoint;
}

-- its push of these parameters
abbrev pub push_of : PushingLogin → Option (List ℕ) → List Pair → PushedRequest
push_of login secret pairs = record { client = pushing_client login secret; pairs = pairs }

module _ {RE T : Type 0} where
  -- what follows from the outcome of a push: the URL of the authorization endpoint with the two
  -- parameters that name the pushed request (RFC 9126, 4), or an error if it is too long or memory
  -- runs out; or the error of the push
  abbrev pub IsUrlOf : List ℕ → Parts → Result PushedAuthorization (RequestTokenError RE T)
      → Result Parts (PushLoginError RE T) → Type 0
  IsUrlOf id endpoint (Ok pushed) (Ok url) =
      ExtendsQuery endpoint url (reference_pairs id pushed.request_uri)
  IsUrlOf id endpoint (Ok pushed) (Err (error.Url why)) =
      IsOutOfRoom why
      × (why ≡ Overflow ↔ IsTooLong (append_query_pairs endpoint (reference_pairs id pushed.request_uri)))
  IsUrlOf id endpoint (Ok pushed) (Err other) = ⊥
  IsUrlOf id endpoint (Err failure) result = result ≡ Err (error.Request failure)

module _ {T RE C : Type 0} where
  -- the parameters of the URL cannot be pushed, or memory ran out before: the HTTP client is
  -- unchanged, and the error says why
  abbrev pub PushesNothing : PushingLogin → Addressed → Parts → C
      → Result Parts (PushLoginError RE T) → C → Type 0
  PushesNothing login auth_url url before result after =
      (why : PushFault) × (result ≡ Err (error.Push why)) × (after ≡ before)
      × ((why ≡ fault.Memory) ⊎ (push_fault login.client.client_id login.endpoint auth_url.url (added_pairs auth_url.url url) ≡ Some why))

module _ {T E RE C : Type 0} where
  -- exactly the parameters that the URL adds to its endpoint are pushed, once, and the result
  -- follows from the outcome
  abbrev pub PushesAll : (T → E) → (Data → Reading E)
      → (C → HttpRequest → Result HttpResponse RE → C → Type 0)
      → PushingLogin
      → Option (List ℕ)
      → Addressed
      → Parts
      → C
      → Result Parts (PushLoginError RE T)
      → C
      → Type 0
  PushesAll error_meaning error_reading step login secret auth_url url before result after =
      (pairs : List Pair) × (added_pairs auth_url.url url ≡ Some pairs)
      × (push_fault login.client.client_id login.endpoint auth_url.url (Some pairs) ≡ None)
      × (outcome : Result PushedAuthorization (RequestTokenError RE T))
      × AsksOnce (λ (pushed : PushedAuthorization). pushed) error_meaning step (pushed_answer_of login.client.reply_rule error_reading)
      (IsRequestOf (pushed_configuration (push_of login secret pairs))) (serialize login.endpoint)
      before outcome after
      × IsUrlOf login.client.client_id auth_url.url outcome result

  -- one of the two happens, at the client's authorization endpoint
  abbrev pub EndsPush : (T → E) → (Data → Reading E)
      → (C → HttpRequest → Result HttpResponse RE → C → Type 0)
      → PushingLogin → Option (List ℕ) → Parts → C → Result Parts (PushLoginError RE T) → C → Type 0
  EndsPush error_meaning error_reading step login secret url before result after =
      (auth_url : Addressed) × (login.client.auth_url ≡ Some auth_url)
      × (PushesAll error_meaning error_reading step login secret auth_url url before result after
      ⊎ PushesNothing login auth_url url before result after)
