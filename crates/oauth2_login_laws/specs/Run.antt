-- A finished list of events, and what is read off it.
use Rattle.std.specs.Prelude.{◌≡◌, ℕ, ◌+◌, ◌==◌, if◌then◌else◌, List, [], ◌∷◌, Option, Some, None, bytes_eq}
use Rattle.oauth2_redirect.specs.Login.{LoginView}
use Rattle.oauth2_login_laws.specs.Event.{Arrival, Event, Began, Asked, Refused, Ignored, Finished, Failed, Dropped, Standing, CanHappen, after, key}

-- each event can happen when its turn comes
abbrev pub IsRun : Standing → List Event → Type 0
IsRun c [] = Unit {0}
IsRun c (event ∷ events) = CanHappen c event × IsRun (after c event) events

-- what there is after all of them
abbrev pub at_last : Standing → List Event → Standing
at_last c [] = c
at_last c (event ∷ events) = at_last (after c event) events

-- 1 for a login with this key, and else 0
abbrev pub one_if : List ℕ → LoginView → ℕ
one_if name login = if bytes_eq name (key login) then 1 else 0

-- 1 if the numbers are equal, and else 0
abbrev pub one_if_number : ℕ → ℕ → ℕ
one_if_number n m = if n == m then 1 else 0

-- how often a login with this key begins
abbrev pub times_begun : List ℕ → List Event → ℕ
times_begun s [] = 0
times_begun s (Began login ∷ events) = one_if s login + times_begun s events
times_begun s (Asked arrival login client number request ∷ events) = times_begun s events
times_begun s (Refused arrival login ∷ events) = times_begun s events
times_begun s (Ignored arrival ∷ events) = times_begun s events
times_begun s (Finished number login token ∷ events) = times_begun s events
times_begun s (Failed number login ∷ events) = times_begun s events
times_begun s (Dropped name ∷ events) = times_begun s events

-- how often a request is sent for a login with this key
abbrev pub times_asked : List ℕ → List Event → ℕ
times_asked s [] = 0
times_asked s (Began login ∷ events) = times_asked s events
times_asked s (Asked arrival login client number request ∷ events) = one_if s login + times_asked s events
times_asked s (Refused arrival login ∷ events) = times_asked s events
times_asked s (Ignored arrival ∷ events) = times_asked s events
times_asked s (Finished number login token ∷ events) = times_asked s events
times_asked s (Failed number login ∷ events) = times_asked s events
times_asked s (Dropped name ∷ events) = times_asked s events

-- how often a token is handed out for a login with this key
abbrev pub times_finished : List ℕ → List Event → ℕ
times_finished s [] = 0
times_finished s (Began login ∷ events) = times_finished s events
times_finished s (Asked arrival login client number request ∷ events) = times_finished s events
times_finished s (Refused arrival login ∷ events) = times_finished s events
times_finished s (Ignored arrival ∷ events) = times_finished s events
times_finished s (Finished number login token ∷ events) = one_if s login + times_finished s events
times_finished s (Failed number login ∷ events) = times_finished s events
times_finished s (Dropped name ∷ events) = times_finished s events

-- how many requests have this number
abbrev pub times_numbered : ℕ → List Event → ℕ
times_numbered n [] = 0
times_numbered n (Began login ∷ events) = times_numbered n events
times_numbered n (Asked arrival login client number request ∷ events) = one_if_number n number + times_numbered n events
times_numbered n (Refused arrival login ∷ events) = times_numbered n events
times_numbered n (Ignored arrival ∷ events) = times_numbered n events
times_numbered n (Finished number login token ∷ events) = times_numbered n events
times_numbered n (Failed number login ∷ events) = times_numbered n events
times_numbered n (Dropped name ∷ events) = times_numbered n events

-- the redirect that arrives by this event
abbrev pub arrival_in : Event → Option Arrival
arrival_in (Began login) = None
arrival_in (Asked arrival login client number request) = Some arrival
arrival_in (Refused arrival login) = Some arrival
arrival_in (Ignored arrival) = Some arrival
arrival_in (Finished number login token) = None
arrival_in (Failed number login) = None
arrival_in (Dropped name) = None

-- nothing is sent by this event
abbrev pub SendsNothing : Event → Type 0
SendsNothing (Began login) = Unit {0}
SendsNothing (Asked arrival login client number request) = ⊥
SendsNothing (Refused arrival login) = Unit {0}
SendsNothing (Ignored arrival) = Unit {0}
SendsNothing (Finished number login token) = Unit {0}
SendsNothing (Failed number login) = Unit {0}
SendsNothing (Dropped name) = Unit {0}

-- by this event a login with this key ends
abbrev pub Ends : Event → List ℕ → Type 0
Ends (Began login) s = ⊥
Ends (Asked arrival login client number request) s = ⊥
Ends (Refused arrival login) s = key login ≡ s
Ends (Ignored arrival) s = ⊥
Ends (Finished number login token) s = key login ≡ s
Ends (Failed number login) s = key login ≡ s
Ends (Dropped name) s = name ≡ s
