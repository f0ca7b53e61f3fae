-- A request that is sent again.
use Rattle.std.specs.Prelude.{◌≡◌, ℕ, ◌*◌, ◌<◌, ◌≤◌, ◌==◌, ◌||◌, Bool, not, IsTrue, MatchBool, All, List, [], ◌∷◌, length, Result}
use Rattle.std.specs.declared.time.Duration.{Duration}
use Rattle.std.specs.Duration.{as_nanos}
use Rattle.http.specs.Request.{head_of}
use Rattle.oauth2_wire.specs.Reply.{HttpResponse}
use Rattle.oauth2_wire.specs.Request.{HttpRequest, IsCopyOf, view_of}
use Rattle.oauth2_http1_connections.specs.retries.Answers.{is_repeatable}
use Rattle.oauth2_http1_connections.specs.retries.Limits.{Limits}
use Rattle.oauth2_http1_connections.specs.retries.Pause.{pause_after}

-- a client, its limits, and whether its last call stopped early because memory ran out
pub record Repeater (C : Type 0) : Type 0 where
  pub client : C
  pub limits : Limits
  pub is_cut_short : Bool

module _ {C E : Type 0} (step : C → HttpRequest → Result HttpResponse E → C → Type 0) (sleeps : C → Duration → C → Type 0) where
  -- one call of the client, with the request or a copy of it
  abbrev pub Sends : HttpRequest → C → Result HttpResponse E → C → Type 0
  Sends request before answer after =
      (sent : HttpRequest)
      × IsCopyOf (view_of request) (view_of sent)
      × step before sent answer after

  -- calls with these answers, each followed by a sleep, and then the last call. If no answer asks
  -- for a wait, the first sleep is `wait` nanoseconds long, and each later one twice as long as the
  -- one before it, up to `most`
  abbrev pub SendsInTurn : HttpRequest → ℕ → ℕ → C → List (Result HttpResponse E)
      → Result HttpResponse E → C → Type 0
  SendsInTurn request most wait before [] result after = Sends request before result after
  SendsInTurn request most wait before (answer ∷ answers) result after =
      (called : C) × (slept : C) × (duration : Duration)
      × Sends request before answer called
      × (as_nanos duration ≡ pause_after most wait answer) × sleeps called duration slept
      × SendsInTurn request most (2 * wait) slept answers result after

  -- what a client that repeats does with a request, within the limits
  pub record Repeats (unsent : E → Bool) (limits : Limits) (before : C) (request : HttpRequest)
      (result : Result HttpResponse E) (after : C) (is_cut_short : Bool) : Type 0 where
    -- the answers before the last one
    pub earlier : List (Result HttpResponse E)
    pub calls : SendsInTurn request limits.most_wait limits.first_wait before earlier result after
    pub each : All (λ answer. IsTrue (is_repeatable unsent (head_of request).method answer)) earlier
    pub most : length earlier ≤ limits.most_repeats
    -- the last answer is none after which the request is sent again, or the limit of repeats is
    -- reached; or the call was cut short: one more repeat was allowed, but there was no memory for
    -- a copy of the request
    pub end : MatchBool is_cut_short (length earlier < limits.most_repeats)
        (IsTrue (not (is_repeatable unsent (head_of request).method result) || length earlier == limits.most_repeats))

  -- one call of a client that repeats
  abbrev pub CallsRepeating : (E → Bool) → Repeater C → HttpRequest → Result HttpResponse E
      → Repeater C → Type 0
  CallsRepeating unsent before request result after =
      Repeats unsent before.limits before.client request result after.client after.is_cut_short
      × (after.limits ≡ before.limits)
