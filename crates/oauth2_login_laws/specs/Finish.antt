-- How the end of a login by `finish` is one of the events.
use Rattle.std.specs.Prelude.{◌≡◌, ◌⊎◌, ℕ, List, Result, Option}
use Rattle.std.specs.List.{Contains}
use Rattle.serde_json.specs.Data.{Data}
use Rattle.url.specs.Parts.{Parts, serialize}
use Rattle.oauth2_json.specs.Reading.{Reading}
use Rattle.oauth2_form.specs.Pairs.{Pair}
use Rattle.oauth2_wire.specs.Once.{AsksOnce}
use Rattle.oauth2_wire.specs.Reply.{HttpResponse, answer_of}
use Rattle.oauth2_wire.specs.Request.{HttpRequest, IsRequestOf}
use Rattle.oauth2_wire.specs.declared.error.RequestTokenError.{RequestTokenError}
use Rattle.oauth2_requests.specs.Code.{CodeRequest, code_configuration}
use Rattle.oauth2.specs.Settings.{Settings}
use Rattle.oauth2_redirect.specs.declared.login_error.LoginError.{LoginError}
use Rattle.oauth2_redirect.specs.End.{FinishesLogin, of_exchange}
use Rattle.oauth2_redirect.specs.Login.{LoginView}
use Rattle.oauth2_login_laws.specs.Event.{Arrival, Standing, Asked, Refused, CanHappen}

-- the redirect with these parameters, which came to the URL `called`
abbrev pub arrival_of : Parts → List Pair → Arrival
arrival_of called pairs = record { called = called; pairs = pairs }

module _ {D A T E RE C : Type 0} (meaning : D → A) (error_meaning : T → E)
    (reading : Data → Reading A) (error_reading : Data → Reading E) (is_ready : C → Type 0)
    (step : C → HttpRequest → Result HttpResponse RE → C → Type 0) where
  -- the client sends this request at most once, and the login ends with what comes of it
  abbrev pub SendsRequest : Settings → CodeRequest → C → Result D (LoginError RE T) → C → Type 0
  SendsRequest client request before result later =
      (outcome : Result D (RequestTokenError RE T)) × (result ≡ of_exchange outcome)
      × AsksOnce meaning error_meaning step (answer_of client.reply_rule reading error_reading)
      (IsRequestOf (code_configuration request)) (serialize request.token_url.url) before outcome later

  -- if the login is pending, finishing it is one of two events, each of which can happen: the redirect
  -- is refused, and the HTTP client is as it was; or the request is sent, and no other one
  abbrev pub EachFinishIsAnEvent : Type 0
  EachFinishIsAnEvent =
      (c : Standing) (client : Settings) (login : LoginView) (called : Parts) (pairs : List Pair)
      (before : C) (result : Result D (LoginError RE T)) (later : C) →
      Contains c.pending login →
      FinishesLogin meaning error_meaning reading error_reading is_ready step client login called pairs before result later →
      (CanHappen c (Refused (arrival_of called pairs) login) × (later ≡ before))
      ⊎ ((request : CodeRequest)
      × CanHappen c (Asked (arrival_of called pairs) login client c.requests request)
      × SendsRequest client request before result later)
