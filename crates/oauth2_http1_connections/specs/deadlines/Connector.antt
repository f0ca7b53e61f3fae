-- A connector that gives each of its connections a deadline.
use Rattle.std.specs.Prelude.{◌≡◌, ◌+◌, min, Result, Ok, Err}
use Rattle.std.specs.Duration.{as_nanos, max_nanos}
use Rattle.std.specs.declared.time.Duration.{Duration}
use Rattle.oauth2_http1.specs.Origin.{Place}
use Rattle.oauth2_http1_connections.specs.declared.deadlines.connector.DeadlineConnector.{DeadlineConnector}
use Rattle.oauth2_http1_connections.specs.declared.deadlines.stream.DeadlineStream.{DeadlineStream}

-- the time that is so much later; no time is later than the greatest duration
abbrev pub IsLater : Duration → Duration → Duration → Type 0
IsLater begun most_time deadline =
    as_nanos deadline ≡ min (as_nanos begun + as_nanos most_time) max_nanos

module _ {C S E K : Type 0} (reads : C → Duration → C → Type 0) (clocks : C → K → Type 0) (opens : C → Place → Duration → Result S E → C → Type 0) where
  -- the clock is read once, and then the connection is opened: the opening begins in the state that
  -- the reading left. It takes at most the most time, and the deadline is so much later than the
  -- reading. So the time of the opening counts
  abbrev pub OpensInTime : DeadlineConnector C → Place → Result (DeadlineStream S K) E
      → DeadlineConnector C → Type 0
  OpensInTime before place (Ok opened) after =
      (after.most_time ≡ before.most_time)
      × ((begun : Duration) × (read : C) × reads before.connect begun read
      × opens read place before.most_time (Ok opened.stream) after.connect
      × clocks after.connect opened.clock × IsLater begun before.most_time opened.deadline)
  OpensInTime before place (Err e) after =
      (after.most_time ≡ before.most_time)
      × ((begun : Duration) × (read : C) × reads before.connect begun read
      × opens read place before.most_time (Err e) after.connect)
