-- The laws of logins, over each finished list of events: whatever redirects arrive, in any order, with
-- whatever parameters, and whatever servers there are, hostile ones among them (RFC 9700, 4.4).
use Rattle.std.specs.Prelude.{◌≡◌, ℕ, ◌≤◌, List, [], ◌∷◌, ◌++◌, ◌⊎◌, Option, Some, None, Ok, IsSome, IsTrue, codes}
use Rattle.std.specs.List.{Contains}
use Rattle.url.specs.Parts.{serialize}
use Rattle.oauth2_requests.specs.Code.{CodeRequest}
use Rattle.oauth2.specs.Settings.{Settings}
use Rattle.oauth2_redirect.specs.Login.{LoginView, issuer_text}
use Rattle.oauth2_redirect.specs.Place.{is_at_redirect_uri}
use Rattle.oauth2_redirect.specs.Query.{first_text, sole_text, texts}
use Rattle.oauth2_redirect.specs.Redirect.{answer, is_issuer}
use Rattle.oauth2_login_laws.specs.Event.{Arrival, Event, Began, Asked, Finished, begin, key, arrival_key}
use Rattle.oauth2_login_laws.specs.Run.{IsRun, times_begun, times_asked, times_finished, times_numbered, arrival_in, SendsNothing, Ends}

-- ---- each request is its login's

-- the request goes to the login's token endpoint, names its client, and has its verifier and its
-- redirect URI (RFC 6749, 4.1.3; RFC 7636, 4.5); its code is the redirect's only one
pub record IsRequestFor (login : LoginView) (arrival : Arrival) (request : CodeRequest) : Type 0 where
  pub endpoint : serialize request.token_url.url ≡ login.token_url
  pub client_id : request.base.client_id ≡ login.client_id
  pub verifier : request.pkce_verifier ≡ Some login.verifier
  pub redirect_uri : request.redirect_url ≡ Some login.redirect_uri
  pub code : sole_text (codes "code") arrival.pairs ≡ Some request.code

-- the redirect has the login's state (RFC 6749, 10.12), came to its redirect URI (RFC 9700, 2.1), may
-- come from its issuer (RFC 9207, 2.4), and is no error (RFC 6749, 4.1.2.1)
pub record IsAnswerTo (login : LoginView) (arrival : Arrival) : Type 0 where
  pub state : arrival_key arrival ≡ Some (key login)
  pub place : IsTrue (is_at_redirect_uri login.redirect_uri.url arrival.called)
  pub issuer : IsTrue (is_issuer login.issuer (texts (codes "iss") arrival.pairs))
  pub no_error : first_text (codes "error") arrival.pairs ≡ None

-- a request is sent only for a login that began, on a redirect that answers it, and it is that
-- login's, whatever client the caller finishes it with
abbrev pub EachRequestIsItsLogins : Type 0
EachRequestIsItsLogins =
    (before later : List Event) (arrival : Arrival) (login : LoginView) (client : Settings) (number : ℕ) (request : CodeRequest) →
    IsRun begin (before ++ Asked arrival login client number request ∷ later) →
    Contains before (Began login) × IsAnswerTo login arrival × IsRequestFor login arrival request

-- if no two logins have its key, the login that asks is the only one whose state the redirect has
abbrev pub EachStateNamesOneLogin : Type 0
EachStateNamesOneLogin =
    (before later : List Event) (arrival : Arrival) (login other : LoginView) (client : Settings) (number : ℕ) (request : CodeRequest) →
    IsRun begin (before ++ Asked arrival login client number request ∷ later) →
    times_begun (key login) before ≤ 1 →
    Contains before (Began other) →
    arrival_key arrival ≡ Some (key other) →
    other ≡ login

-- a login asks no more often than it began; so once, if its key is that of no other login
abbrev pub EachLoginAsksOnce : Type 0
EachLoginAsksOnce =
    (events : List Event) (name : List ℕ) →
    IsRun begin events →
    times_asked name events ≤ times_begun name events

-- ---- each code goes to its server

-- the redirect is of the server whose token endpoint is `url`. Either it names this one issuer, and
-- each login that may await it knows an issuer; or it came to a redirect URI that only logins at this
-- endpoint have (RFC 9700, 4.4.2)
abbrev pub IsOfServer : List Event → List ℕ → List ℕ → Arrival → Type 0
IsOfServer events issuer url arrival =
    ((texts (codes "iss") arrival.pairs ≡ issuer ∷ [])
    × ((login : LoginView) → Contains events (Began login)
    → IsTrue (is_at_redirect_uri login.redirect_uri.url arrival.called) → IsSome (issuer_text login.issuer)))
    ⊎ ((login : LoginView) → Contains events (Began login)
    → IsTrue (is_at_redirect_uri login.redirect_uri.url arrival.called) → login.token_url ≡ url)

-- a code that arrives only by redirects of one server is sent to no other endpoint
abbrev pub EachCodeGoesToItsServer : Type 0
EachCodeGoesToItsServer =
    (events : List Event) (issuer url code : List ℕ) →
    IsRun begin events →
    ((event : Event) (arrival : Arrival) → Contains events event → arrival_in event ≡ Some arrival
    → sole_text (codes "code") arrival.pairs ≡ Some code → IsOfServer events issuer url arrival) →
    ((login : LoginView) → Contains events (Began login) → issuer_text login.issuer ≡ Some issuer → login.token_url ≡ url) →
    (arrival : Arrival) (login : LoginView) (client : Settings) (number : ℕ) (request : CodeRequest) →
    Contains events (Asked arrival login client number request) →
    request.code ≡ code →
    serialize request.token_url.url ≡ url

-- ---- nothing is sent for another redirect

-- if the redirect is the answer to no login that began before, nothing is sent
abbrev pub NothingIsSentForOthers : Type 0
NothingIsSentForOthers =
    (before later : List Event) (event : Event) (arrival : Arrival) →
    IsRun begin (before ++ event ∷ later) →
    arrival_in event ≡ Some arrival →
    ((login : LoginView) → Contains before (Began login) → IsAnswerTo login arrival → ⊥) →
    SendsNothing event

-- each answer to a login that has one code is taken
abbrev pub EachAnswerIsTaken : Type 0
EachAnswerIsTaken =
    (login : LoginView) (arrival : Arrival) (code : List ℕ) →
    IsAnswerTo login arrival →
    sole_text (codes "code") arrival.pairs ≡ Some code →
    answer login.state login.issuer arrival.pairs ≡ Ok code

-- ---- a token is the reply to the login's request

-- a token that a login ends with is the reply to a request that was sent for this login
abbrev pub EachTokenAnswersItsRequest : Type 0
EachTokenAnswersItsRequest =
    (before later : List Event) (number : ℕ) (login : LoginView) (token : List ℕ) →
    IsRun begin (before ++ Finished number login token ∷ later) →
    (arrival : Arrival) × (client : Settings) × (request : CodeRequest) × Contains before (Asked arrival login client number request)

-- a login hands out a token no more often than it began
abbrev pub EachLoginFinishesOnce : Type 0
EachLoginFinishesOnce =
    (events : List Event) (name : List ℕ) →
    IsRun begin events →
    times_finished name events ≤ times_begun name events

-- a number names one request
abbrev pub EachRequestHasItsNumber : Type 0
EachRequestHasItsNumber =
    (events : List Event) (number : ℕ) →
    IsRun begin events →
    times_numbered number events ≤ 1

-- ---- a login that ended is not used again

-- if the key of a login that ended is that of no other login, nothing is sent for it any more, and it
-- hands out no token
abbrev pub EndedLoginIsNotUsed : Type 0
EndedLoginIsNotUsed =
    (before later : List Event) (event : Event) (login : LoginView) →
    IsRun begin (before ++ event ∷ later) →
    times_begun (key login) (before ++ event ∷ later) ≤ 1 →
    Contains before (Began login) →
    Ends event (key login) →
    (times_asked (key login) later ≡ 0) × (times_finished (key login) later ≡ 0)
