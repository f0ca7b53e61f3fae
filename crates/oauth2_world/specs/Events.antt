-- What a run shows, event by event.
use Rattle.std.specs.Prelude.{ℕ, List, [], ◌∷◌, Option, Some, None, ℤ, map, option_map, option_copied, string_bytes}
use Rattle.std.specs.Duration.{as_nanos}
use Rattle.oauth2_codes.specs.ErrorResponse.{ErrorParts, parts_of_error}
use Rattle.oauth2_json.specs.Reading.{Fault as Unread, fault_of}
use Rattle.oauth2_script.specs.Fault.{Fault as ScriptFault}
use Rattle.oauth2_script.specs.Gives.{script_fault_view}
use Rattle.oauth2_script.specs.Views.{http_reply_view}
use Rattle.oauth2_wire.specs.Reply.{ReplyView}
use Rattle.oauth2_wire.specs.Request.{RequestView, view_of}
use Rattle.oauth2_world.specs.Replies.{view_of_http_reply}
use Rattle.oauth2_world.specs.declared.event.ErrorMembers.{ErrorMembers}
use Rattle.oauth2_world.specs.declared.event.Event.{Event as StoredEvent}
use Rattle.oauth2_world.specs.declared.event.Event.TheVariants as stored
use Rattle.oauth2_world.specs.declared.event.Fault.{Fault as StoredFault}
use Rattle.oauth2_world.specs.declared.event.FaultDetails.{FaultDetails as StoredDetails}
use Rattle.oauth2_world.specs.declared.event.FaultDetails.TheVariants as details
use Rattle.oauth2_world.specs.declared.event.FaultKind.{FaultKind}

-- what is known of a fault beside its text: the members of an error response (RFC 6749, 5.2), or
-- which member of a body could not be read, and why
pub data Details : Type 0 where
  none : Details
  refused : ErrorParts (List ℕ) → Details
  unread : Unread → Details

-- why a command has no answer
pub record Fault : Type 0 where
  pub kind : FaultKind
  pub text : List ℕ
  pub details : Details

-- an event of a run
pub data Event : Type 0 where
  -- the client sent a request; there is no reply if the call failed
  exchanged : RequestView → Option ReplyView → Event
  -- a device waited for so many nanoseconds
  slept : ℕ → Event
  -- the URL that the user is sent to
  sent_to : List ℕ → Event
  -- an answer, as a JSON text
  answered : List ℕ → Event
  -- a fault
  failed : Fault → Event
  -- a keeper makes no request before this second since 1970; none if no moment can say it
  waits : Option ℤ → Event
  -- a keeper of a shared token, by its number, and what it did
  stepped : ℕ → List ℕ → Event
  -- the input is not a script: its first bad member, and why
  bad_script : ScriptFault → Event

-- ---- the events that the code holds

-- the members of an error response
abbrev pub members_of : ErrorMembers → ErrorParts (List ℕ)
members_of m =
    parts_of_error (string_bytes m.error) (option_map string_bytes m.description)
    (option_map string_bytes m.uri)

-- what a fault says beside its text: the error response, or why the body was not read
abbrev pub details_of : StoredDetails → Details
details_of details.None = none
details_of (details.Refused m) = refused (members_of m)
details_of (details.Unread f) = unread (fault_of f)

-- a fault: its kind, its text and what it says beside that
abbrev pub fault_seen : StoredFault → Fault
fault_seen f = record { kind = f.kind; text = string_bytes f.text; details = details_of f.details }

-- an event
abbrev pub event_of : StoredEvent → Event
event_of (stored.Exchange request reply) =
    exchanged (view_of request) (option_map (λ r. view_of_http_reply (http_reply_view r)) reply)
event_of (stored.Sleep duration) = slept (as_nanos duration)
event_of (stored.Url url) = sent_to (string_bytes url)
event_of (stored.Answer json) = answered (string_bytes json)
event_of (stored.Fault fault) = failed (fault_seen fault)
event_of (stored.Wait until) = waits until
event_of (stored.Step keeper text) = stepped keeper (string_bytes text)
event_of (stored.BadScript fault) = bad_script (script_fault_view fault)
