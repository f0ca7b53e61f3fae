-- One try to send a request.
use Rattle.std.specs.Prelude.{◌≡◌, ℕ, Bool, false, IsTrue, Result}
use Rattle.std.specs.declared.time.Duration.{Duration}
use Rattle.std.specs.Duration.{as_nanos}
use Rattle.http.specs.Request.{head_of}
use Rattle.oauth2_wire.specs.Reply.{HttpResponse}
use Rattle.oauth2_wire.specs.Request.{HttpRequest}
use Rattle.oauth2_http1_connections.specs.retries.Answers.{is_repeatable}
use Rattle.oauth2_http1_connections.specs.retries.Pause.{pause_after}

module _ {C E : Type 0} (step : C → HttpRequest → Result HttpResponse E → C → Type 0) where
  -- the request may be sent again after this answer, and the client slept before that
  pub record SleepsAfter (sleeps : C → Duration → C → Type 0) (unsent : E → Bool) (most wait : ℕ)
      (request sent : HttpRequest) (before after : C) : Type 0 where
    pub answer : Result HttpResponse E
    pub called : C
    pub duration : Duration
    pub calls : step before sent answer called
    pub again : IsTrue (is_repeatable unsent (head_of request).method answer)
    pub time : as_nanos duration ≡ pause_after most wait answer
    pub slept : sleeps called duration after

  -- the request is not sent again after this answer
  abbrev pub Ends : (E → Bool) → HttpRequest → HttpRequest → C → Result HttpResponse E → C → Type 0
  Ends unsent request sent before answer after =
      step before sent answer after × (is_repeatable unsent (head_of request).method answer ≡ false)
