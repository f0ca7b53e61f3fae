-- What happens to a client that begins logins, when each of it can happen, and what it changes. The
-- attacker owns all between the client and its servers: any redirect may arrive at any time.
use Rattle.std.specs.Prelude.{◌≡◌, ℕ, ◌+◌, ◌==◌, List, [], ◌∷◌, ◌++◌, Ok, Bool, not, bytes_eq, codes, Option, Some, None, option_map}
use Rattle.std.specs.List.{Contains, filter}
use Rattle.sha2.specs.Sha256.{sha256}
use Rattle.url.specs.Parts.{Parts}
use Rattle.oauth2_urls.specs.Addressed.{Addressed}
use Rattle.oauth2_form.specs.Pairs.{Pair}
use Rattle.oauth2_requests.specs.Code.{CodeRequest}
use Rattle.oauth2.specs.Settings.{Settings}
use Rattle.oauth2_redirect.specs.Bound.{mismatch}
use Rattle.oauth2_redirect.specs.End.{login_exchange}
use Rattle.oauth2_redirect.specs.Login.{LoginView}
use Rattle.oauth2_redirect.specs.Query.{sole_text}
use Rattle.oauth2_redirect.specs.Redirect.{answer}

-- a redirect that arrived: the URL that was called, and the parameters of its query, or of the form
-- in its body
pub record Arrival : Type 0 where
  pub called : Parts
  pub pairs : List Pair

-- states are compared by their SHA-256 digests, so a login is known by that of its state
abbrev pub key : LoginView → List ℕ
key login = sha256 login.state

-- the digest of the redirect's state, if it has exactly one (RFC 6749, 3.1 and 4.1.2)
abbrev pub arrival_key : Arrival → Option (List ℕ)
arrival_key arrival = option_map sha256 (sole_text (codes "state") arrival.pairs)

pub data Event : Type 0 where
  -- the client begins a login
  Began : LoginView → Event
  -- a redirect arrived, and these settings send a request for this login, with this number
  Asked : Arrival → LoginView → Settings → ℕ → CodeRequest → Event
  -- a redirect arrived, nothing is sent, and this login ends
  Refused : Arrival → LoginView → Event
  -- a redirect arrived, nothing is sent, and nothing changes
  Ignored : Arrival → Event
  -- a token is the reply to the request of this number, and this login ends with it
  Finished : ℕ → LoginView → List ℕ → Event
  -- the reply to the request of this number is no token, or none comes any more; its login ends
  Failed : ℕ → LoginView → Event
  -- the caller gives up the login with this key
  Dropped : List ℕ → Event

-- a login whose request was sent, and the number of that request
pub record Waiting : Type 0 where
  pub number : ℕ
  pub login : LoginView

-- the logins whose redirect is awaited, those whose reply is, and how many requests were sent. These
-- are the logins of one browser: those of another one are another such record.
pub record Standing : Type 0 where
  pub pending : List LoginView
  pub waiting : List Waiting
  pub requests : ℕ

-- nothing began
abbrev pub begin : Standing
begin = record { pending = []; waiting = []; requests = 0 }

-- a login with the number of its request
abbrev pub waiting_of : ℕ → LoginView → Waiting
waiting_of number login = record { number = number; login = login }

-- whether the login has another key
abbrev pub is_other : List ℕ → LoginView → Bool
is_other name login = not (bytes_eq name (key login))

-- the logins that are left when the one with this key is over
abbrev pub without : List ℕ → List LoginView → List LoginView
without name logins = filter (λ login. is_other name login) logins

-- the logins that await a reply, without the one whose request has this number
abbrev pub without_number : ℕ → List Waiting → List Waiting
without_number number ws = filter (λ w. not (number == w.number)) ws

-- the logins that await a reply, without the one with this key
abbrev pub without_key : List ℕ → List Waiting → List Waiting
without_key name ws = filter (λ w. is_other name w.login) ws

-- the request is the one that these settings make for the login's code
abbrev pub IsExchange : Settings → LoginView → CodeRequest → Type 0
IsExchange client login request =
    (endpoint : Addressed) × (client.token_url ≡ Some endpoint)
    × (request ≡ login_exchange client endpoint login request.code)

-- whether an event can happen. A request is sent only for a login whose redirect is awaited, by
-- settings and a URL that are the login's, if the redirect answers the login (RFC 6749, 4.1.2; RFC
-- 9207, 2.4; RFC 9700, 4.4.2).
abbrev pub CanHappen : Standing → Event → Type 0
CanHappen c (Began login) = Unit {0}
CanHappen c (Asked arrival login client number request) =
    Contains c.pending login × (number ≡ c.requests)
    × (mismatch client login arrival.called ≡ None)
    × (answer login.state login.issuer arrival.pairs ≡ Ok request.code)
    × IsExchange client login request
CanHappen c (Refused arrival login) = Contains c.pending login
CanHappen c (Ignored arrival) = Unit {0}
CanHappen c (Finished number login token) = Contains c.waiting (waiting_of number login)
CanHappen c (Failed number login) = Contains c.waiting (waiting_of number login)
CanHappen c (Dropped name) = Unit {0}

-- what there is after an event
abbrev pub after : Standing → Event → Standing
after c (Began login) =
    record { pending = c.pending ++ login ∷ []; waiting = c.waiting; requests = c.requests }
after c (Asked arrival login client number request) = record {
  pending = without (key login) c.pending;
  waiting = c.waiting ++ waiting_of number login ∷ [];
  requests = c.requests + 1;
}
after c (Refused arrival login) =
    record { pending = without (key login) c.pending; waiting = c.waiting; requests = c.requests }
after c (Ignored arrival) = c
after c (Finished number login token) =
    record { pending = c.pending; waiting = without_number number c.waiting; requests = c.requests }
after c (Failed number login) =
    record { pending = c.pending; waiting = without_number number c.waiting; requests = c.requests }
after c (Dropped name) =
    record { pending = without name c.pending; waiting = without_key name c.waiting; requests = c.requests }
