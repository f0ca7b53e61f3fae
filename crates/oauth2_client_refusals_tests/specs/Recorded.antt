-- A clock, HTTP client and sleep function for polls (a world) that records the events of a poll.
use Rattle.std.specs.Prelude.{◌≡◌, true, List, [], ◌∷◌, ◌++◌, Result}
use Rattle.std.specs.declared.time.Duration.{Duration}
use Rattle.jiff.specs.Types.{Timestamp}
use Rattle.oauth2_wire.specs.Request.{HttpRequest}
use Rattle.oauth2_wire.specs.Reply.{HttpResponse}
use Rattle.oauth2_client_refusals_tests.specs.declared.counting_client.NoReply.{NoReply}
use Rattle.oauth2_client_refusals_tests.specs.declared.recorder.Recorder.{Recorder}
use Rattle.oauth2_client_refusals_tests.specs.declared.recorder.Seen.{Seen}
use Rattle.oauth2_client_refusals_tests.specs.declared.recorder.Seen.TheVariants.{Reading, Request, Sleep}
use Rattle.oauth2_device.specs.Events.{PollCall}
use Rattle.oauth2_device.specs.Events as event

-- one event is recorded after those before it, unless there was no room for an event (`is_whole`)
abbrev pub Notes : Recorder → Seen → Recorder → Type 0
Notes before event after =
    after.is_whole ≡ true → (before.is_whole ≡ true)
    × (after.seen.items ≡ before.seen.items ++ event ∷ [])

-- a reading of the clock is recorded, with the time that it returned
abbrev pub RecordsReading : Recorder → Timestamp → Recorder → Type 0
RecordsReading before moment after = Notes before (Reading moment) after

-- a request is recorded, without its content and its answer
abbrev pub RecordsSending : Recorder → HttpRequest → Result HttpResponse NoReply → Recorder → Type 0
RecordsSending before request answer after = Notes before Request after

-- a sleep is recorded, with its duration
abbrev pub RecordsSleep : Recorder → Duration → Recorder → Type 0
RecordsSleep before duration after = Notes before (Sleep duration) after

-- the events of a poll, in the form in which a recorder keeps them
abbrev pub events_seen : {RE : Type 0} → List (PollCall RE) → List Seen
events_seen [] = []
events_seen (event.Reading moment ∷ e) = Reading moment ∷ events_seen e
events_seen (event.Sent request answer ∷ e) = Request ∷ events_seen e
events_seen (event.Slept duration ∷ e) = Sleep duration ∷ events_seen e

-- these events are recorded after those before them, unless there was no room for an event
abbrev pub Records : {RE : Type 0} → Recorder → List (PollCall RE) → Recorder → Type 0
Records before e after =
    after.is_whole ≡ true → (before.is_whole ≡ true)
    × (after.seen.items ≡ before.seen.items ++ events_seen e)
