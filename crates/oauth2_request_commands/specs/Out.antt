-- The output of a run: what it shows, and how it ends.
use Rattle.std.specs.Prelude.{◌≡◌, ℕ, List, [], ◌∷◌, ◌++◌, codes}
use Rattle.oauth2_codes.specs.ErrorResponse.{ErrorParts, after_colon, in_brackets}
use Rattle.oauth2_json.specs.Reading.{Fault as Unread}
use Rattle.oauth2_script.specs.Replies.{Reply}
use Rattle.oauth2_wire.specs.Once.{not_http_text}
use Rattle.oauth2_wire.specs.Request.{RequestView}
use Rattle.oauth2_world.specs.Events.{Event, exchanged, answered, failed, Fault, none, refused, unread}
use Rattle.oauth2_world.specs.Replies.{next_reply}
use Rattle.oauth2_world.specs.declared.event.FaultKind.{FaultKind}
use Rattle.oauth2_world.specs.declared.event.FaultKind.TheVariants.{ErrorResponse, OtherError, OutOfMemory, UnreadReply}
use Rattle.oauth2_request_commands.specs.declared.status.RunStatus.{RunStatus}
use Rattle.oauth2_request_commands.specs.declared.status.RunStatus.TheVariants as status

-- the events of a run, in order, and how it ends
pub record Output : Type 0 where
  pub events : List Event
  pub status : RunStatus

-- the output for an answer, as a JSON text
abbrev pub success_output : List ℕ → Output
success_output json = record { events = answered json ∷ []; status = status.Answered }

-- the output for a fault
abbrev pub fault_shown : Fault → Output
fault_shown fault = record { events = failed fault ∷ []; status = status.Fault }

-- the output for a fault of which nothing is known but its kind and its text
abbrev pub failure_output : FaultKind → List ℕ → Output
failure_output kind text = fault_shown (record { kind = kind; text = text; details = none })

-- the output if memory ran out inside a call of the client
abbrev pub no_memory_output : Output
no_memory_output = failure_output OutOfMemory (codes "Out of memory")

-- the text of an error response (RFC 6749, 5.2)
abbrev pub members_text : ErrorParts (List ℕ) → List ℕ
members_text m = (m.error ++ after_colon m.description) ++ in_brackets m.uri

-- the output for an error response of the server
abbrev pub refused_output : ErrorParts (List ℕ) → Output
refused_output m =
    fault_shown (record {
      kind = ErrorResponse;
      text = codes "Server returned error response: " ++ members_text m;
      details = refused m;
    })

-- the output for a body that could not be read
abbrev pub not_read : Unread → Output
not_read fault =
    fault_shown (record { kind = UnreadReply; text = codes "Failed to parse server response"; details = unread fault })

-- the output for another fault, which has only a text
abbrev pub other_output : List ℕ → Output
other_output text = failure_output OtherError (codes "Other error: " ++ text)

-- the output for a URL that no request can be made for
abbrev pub unsent_output : Output
unsent_output = other_output not_http_text

-- an output with these events before its own
abbrev pub after : List Event → Output → Output
after events o = record { events = events ++ o.events; status = o.status }

-- an output behind a request that the client sent, which got the next of these replies
abbrev pub after_exchange : RequestView → List Reply → Output → Output
after_exchange request replies o = after (exchanged request (next_reply replies) ∷ []) o

-- the status of two parts of a run: `later` if the first has an answer, else the status of the first
abbrev pub both : RunStatus → RunStatus → RunStatus
both status.Answered later = later
both status.Fault later = status.Fault
both status.BadScript later = status.BadScript

-- the output of a run without parts
abbrev pub nothing : Output
nothing = record { events = []; status = status.Answered }

-- the output of the first part, and then that of the others, with the status of both
abbrev pub both_outputs : Output → Output → Output
both_outputs first rest = record {
  events = first.events ++ rest.events;
  status = both first.status rest.status;
}

-- `new` is `old` with the events of this output added, and `s` is the status of this output
abbrev pub AddsOutput : List Event → List Event → RunStatus → Output → Type 0
AddsOutput old new s o = (new ≡ old ++ o.events) × (s ≡ o.status)

-- `new` is `old` with the events of some output added that `IsOutput` allows, and `s` is its status
abbrev pub Adds : List Event → List Event → RunStatus → (Output → Type 0) → Type 0
Adds old new s IsOutput = (o : Output) × IsOutput o × (new ≡ old ++ o.events) × (s ≡ o.status)
