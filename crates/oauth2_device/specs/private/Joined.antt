-- A clock, a client and a sleep function joined into one world. Each call changes its own part and
-- keeps the others; the client and the sleep function stay borrowed from the same place.
use Rattle.std.specs.Prelude.{◌≡◌, Result}
use Rattle.std.specs.declared.time.Duration.{Duration}
use Rattle.jiff.specs.Types.{Timestamp}
use Rattle.oauth2_wire.specs.Request.{HttpRequest}
use Rattle.oauth2_wire.specs.Reply.{HttpResponse}
use Rattle.oauth2_device.specs.declared.joined_world.JoinedWorld.{JoinedWorld}

-- a reading of the clock changes only the clock, as `ticks` allows
abbrev pub joined_reads : {T C S : Type 0} → (T → Timestamp → T → Type 0)
    → JoinedWorld T C S → Timestamp → JoinedWorld T C S → Type 0
joined_reads ticks w t v = ticks w.clock t v.clock × (v.client ≡ w.client) × (v.sleep ≡ w.sleep)

-- a request changes only the client, as `step` allows
abbrev pub joined_sends : {T C S RE : Type 0}
    → (C → HttpRequest → Result HttpResponse RE → C → Type 0)
    → JoinedWorld T C S → HttpRequest → Result HttpResponse RE → JoinedWorld T C S → Type 0
joined_sends step w r a v =
    (v.clock ≡ w.clock)
    × step w.client.now r a v.client.now
    × (v.client.ghost_name ≡ w.client.ghost_name)
    × (v.sleep ≡ w.sleep)

-- a sleep changes only the sleep function, as `sleeps` allows
abbrev pub joined_sleeps : {T C S : Type 0} → (S → Duration → S → Type 0)
    → JoinedWorld T C S → Duration → JoinedWorld T C S → Type 0
joined_sleeps sleeps w d v =
    (v.clock ≡ w.clock)
    × (v.client ≡ w.client)
    × sleeps w.sleep.now d v.sleep.now
    × (v.sleep.ghost_name ≡ w.sleep.ghost_name)
