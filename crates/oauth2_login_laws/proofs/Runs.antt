-- Where the logins and the requests that there are come from.
use Rattle.std.proofs.Common.{◌≡◌, ℕ, List, [], ◌∷◌, ◌++◌, Ok, Some, refl, ap, sym, subst, ◌∙◌, not, ◌==◌, ◌⊎◌, inl, inr}
use Rattle.std.specs.List.{Contains}
use Rattle.url.specs.Parts.{serialize}
use Rattle.oauth2_requests.specs.Code.{CodeRequest}
use Rattle.oauth2.specs.Settings.{Settings}
use Rattle.oauth2_redirect.specs.Login.{LoginView}
use Rattle.oauth2_login_laws.specs.Event.{Arrival, Event, Began, Asked, Refused, Ignored, Finished, Failed, Dropped, Standing, Waiting, begin, waiting_of, is_other, key, CanHappen, after}
use Rattle.oauth2_login_laws.specs.Run.{IsRun, at_last, arrival_in, SendsNothing}
use Rattle.oauth2_login_laws.specs.Laws.{IsAnswerTo, IsRequestFor, EachRequestIsItsLogins, NothingIsSentForOthers, EachTokenAnswersItsRequest}
use Rattle.oauth2_login_laws.proofs.Keys.{same_is}
use Rattle.oauth2_login_laws.proofs.Lists.{Has, has, contains, has_push, has_filter}
use Rattle.oauth2_login_laws.proofs.Answers.{answered, bound_to, endpoint_is}

-- a run up to an event, that event, and what comes after it
pub parts : (c : Standing) (before later : List Event) (event : Event) → IsRun c (before ++ event ∷ later) → CanHappen (at_last c before) event × IsRun (after (at_last c before) event) later × IsRun c before
parts c [] later event run = (run.0, run.1, tt)
parts c (e ∷ before) later event run =
    let rest = parts (after c e) before later event run.1 in
    (rest.0, rest.1, (run.0, rest.2))

pending_before : (c : Standing) (event : Event) (login : LoginView) → Has (after c event).pending login → Has c.pending login ⊎ (event ≡ Began login)
pending_before c (Began l) login h =
    elim (has_push c.pending l login h) [
      | inl there ↦ inl there
      | inr is ↦ inr (ap Began is)
    ]
pending_before c (Asked r l o n q) login h = inl (has_filter (λ (x : LoginView). is_other (key l) x) c.pending login h)
pending_before c (Refused r l) login h = inl (has_filter (λ (x : LoginView). is_other (key l) x) c.pending login h)
pending_before c (Ignored r) login h = inl h
pending_before c (Finished n l t) login h = inl h
pending_before c (Failed n l) login h = inl h
pending_before c (Dropped s) login h = inl (has_filter (λ (x : LoginView). is_other s x) c.pending login h)

-- a login whose redirect is awaited began
pub pending_began : (c : Standing) (events : List Event) (login : LoginView) → Has (at_last c events).pending login → Has c.pending login ⊎ Has events (Began login)
pending_began c [] login h = inl h
pending_began c (e ∷ events) login h =
    elim (pending_began (after c e) events login h) [
      | inl now ↦ elim (pending_before c e login now) [
        | inl there ↦ inl there
        | inr is ↦ inr (inl is)
      ]
      | inr later ↦ inr (inr later)
    ]

abbrev IsAsking : Event → ℕ → LoginView → Type 0
IsAsking event number login = (arrival : Arrival) × (client : Settings) × (request : CodeRequest) × (event ≡ Asked arrival login client number request)

waiting_before : (c : Standing) (event : Event) (number : ℕ) (login : LoginView) → Has (after c event).waiting (waiting_of number login) → Has c.waiting (waiting_of number login) ⊎ IsAsking event number login
waiting_before c (Began l) number login h = inl h
waiting_before c (Asked r l o n q) number login h =
    elim (has_push c.waiting (waiting_of n l) (waiting_of number login) h) [
      | inl there ↦ inl there
      | inr is ↦
          let n_is : n ≡ number = ap (λ (w : Waiting). w.number) is in
          let l_is : l ≡ login = ap (λ (w : Waiting). w.login) is in
          inr (r, o, q, ap (λ (x : LoginView). Asked r x o n q) l_is ∙ ap (λ (k : ℕ). Asked r login o k q) n_is)
    ]
waiting_before c (Refused r l) number login h = inl h
waiting_before c (Ignored r) number login h = inl h
waiting_before c (Finished n l t) number login h = inl (has_filter (λ (w : Waiting). not (n == w.number)) c.waiting (waiting_of number login) h)
waiting_before c (Failed n l) number login h = inl (has_filter (λ (w : Waiting). not (n == w.number)) c.waiting (waiting_of number login) h)
waiting_before c (Dropped s) number login h = inl (has_filter (λ (w : Waiting). is_other s w.login) c.waiting (waiting_of number login) h)

abbrev WasAsked : List Event → ℕ → LoginView → Type 0
WasAsked events number login = (arrival : Arrival) × (client : Settings) × (request : CodeRequest) × Has events (Asked arrival login client number request)

-- a login whose reply is awaited asked
waiting_asked : (c : Standing) (events : List Event) (number : ℕ) (login : LoginView) → Has (at_last c events).waiting (waiting_of number login) → Has c.waiting (waiting_of number login) ⊎ WasAsked events number login
waiting_asked c [] number login h = inl h
waiting_asked c (e ∷ events) number login h =
    elim (waiting_asked (after c e) events number login h) [
      | inl now ↦ elim (waiting_before c e number login now) [
        | inl there ↦ inl there
        | inr is ↦ inr (is.0, is.1, is.2, inl is.3)
      ]
      | inr later ↦ inr (later.0, later.1, later.2, inr later.3)
    ]

began_at : (events : List Event) (login : LoginView) → Contains (at_last begin events).pending login → Contains events (Began login)
began_at events login there =
    elim (pending_began begin events login (has (at_last begin events).pending login there)) [
      | inl none ↦ absurd none
      | inr began ↦ contains events (Began login) began
    ]

pub each_request_is_its_logins : EachRequestIsItsLogins
each_request_is_its_logins before later arrival login client number request run =
    let can = (parts begin before later (Asked arrival login client number request) run).0 in
    let bound = bound_to client login arrival.called can.2 in
    let says = answered client login arrival request.code can.2 can.3 in
    let made = can.4 in
    let is = made.2 in (
      began_at before login can.0,
      says.0,
      record {
        endpoint = ap (λ (q : CodeRequest). serialize q.token_url.url) is ∙ endpoint_is login.token_url client.token_url made.0 made.1 bound.1;
        client_id = ap (λ (q : CodeRequest). q.base.client_id) is ∙ same_is client.client_id login.client_id bound.0;
        verifier = ap (λ (q : CodeRequest). q.pkce_verifier) is;
        redirect_uri = ap (λ (q : CodeRequest). q.redirect_url) is;
        code = says.1;
      },
    )

pub nothing_is_sent_for_others : NothingIsSentForOthers
nothing_is_sent_for_others before later (Began l) arrival run is others = tt
nothing_is_sent_for_others before later (Asked r l o n q) arrival run is others =
    let law = each_request_is_its_logins before later r l o n q run in
    let same_arrival : r ≡ arrival = cc in
    others l law.0 (subst (IsAnswerTo l) same_arrival law.1)
nothing_is_sent_for_others before later (Refused r l) arrival run is others = tt
nothing_is_sent_for_others before later (Ignored r) arrival run is others = tt
nothing_is_sent_for_others before later (Finished n l t) arrival run is others = tt
nothing_is_sent_for_others before later (Failed n l) arrival run is others = tt
nothing_is_sent_for_others before later (Dropped s) arrival run is others = tt

pub each_token_answers_its_request : EachTokenAnswersItsRequest
each_token_answers_its_request before later number login token run =
    let can = (parts begin before later (Finished number login token) run).0 in
    elim (waiting_asked begin before number login (has (at_last begin before).waiting (waiting_of number login) can)) [
      | inl none ↦ absurd none
      | inr asked ↦ (asked.0, asked.1, asked.2, contains before (Asked asked.0 login asked.1 number asked.2) asked.3)
    ]
