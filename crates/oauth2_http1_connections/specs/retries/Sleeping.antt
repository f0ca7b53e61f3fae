-- A client and a sleep function joined into one: each call changes only its own part.
use Rattle.std.specs.Prelude.{◌≡◌, Result}
use Rattle.std.specs.declared.time.Duration.{Duration}
use Rattle.oauth2_wire.specs.Reply.{HttpResponse}
use Rattle.oauth2_wire.specs.Request.{HttpRequest}

-- a call changes only the client, as `step` allows
abbrev pub StepsOfClient : {C F E : Type 0} → (C → HttpRequest → Result HttpResponse E → C → Type 0)
    → C × F → HttpRequest → Result HttpResponse E → C × F → Type 0
StepsOfClient step before request answer after =
    step before.0 request answer after.0 × (after.1 ≡ before.1)

-- a sleep changes only the sleep function, as `sleeps` allows
abbrev pub StepsOfSleep : {C F : Type 0} → (F → Duration → F → Type 0) → C × F → Duration → C × F
    → Type 0
StepsOfSleep sleeps before duration after = (after.0 ≡ before.0) × sleeps before.1 duration after.1
