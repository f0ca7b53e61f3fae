-- The events of a run as one JSON object.
use Rattle.std.specs.Prelude.{ℕ, ◌/◌, ◌%◌, ℤ, List, [], ◌∷◌, ◌++◌, map, Option, codes}
use Rattle.std.specs.Fmt.{decimal}
use Rattle.oauth2_script.specs.declared.form.ResultForm.{ResultForm}
use Rattle.oauth2_script.specs.declared.form.ResultForm.TheVariants.{Lines, Json}
use Rattle.oauth2_wire.specs.Reply.{ReplyView}
use Rattle.oauth2_wire.specs.Request.{RequestView}
use Rattle.oauth2_script.specs.Fault.{Fault as ScriptFault}
use Rattle.oauth2_script_values.specs.Cause.{cause_word}
use Rattle.oauth2_world.specs.Events.{Event, exchanged, slept, sent_to, answered, failed, waits, stepped, bad_script}
use Rattle.oauth2_world.specs.Quotation.{quotation}
use Rattle.oauth2_results.specs.FaultJson.{fault_json}
use Rattle.oauth2_results.specs.Lines.{lines_of}
use Rattle.oauth2_results.specs.Json.{object_text, list_text, optional_number}
use Rattle.oauth2_results.specs.ReplyJson.{reply_json}
use Rattle.oauth2_results.specs.RequestJson.{request_json}
use Rattle.oauth2_results.specs.ScopesJson.{scopes_json}

-- a request that the client sent, and the reply
abbrev pub exchange_json : RequestView → Option ReplyView → List ℕ
exchange_json request reply =
    object_text ((codes "event", quotation (codes "exchange"))
    ∷ (codes "request", request_json request)
    ∷ (codes "reply", reply_json reply) ∷ [])

-- a sleep of so many nanoseconds: whole seconds, and the rest
abbrev pub sleep_json : ℕ → List ℕ
sleep_json nanos =
    object_text ((codes "event", quotation (codes "sleep"))
    ∷ (codes "seconds", decimal (nanos / 1_000_000_000))
    ∷ (codes "nanoseconds", decimal (nanos % 1_000_000_000)) ∷ [])

-- the URL that the user is sent to
abbrev pub url_json : List ℕ → List ℕ
url_json url =
    object_text ((codes "event", quotation (codes "url")) ∷ (codes "url", quotation url) ∷ [])

-- an answer, which is a JSON text, with its scopes
abbrev pub answer_json : List ℕ → List ℕ
answer_json answer =
    object_text ((codes "event", quotation (codes "answer"))
    ∷ (codes "answer", answer)
    ∷ (codes "scopes", scopes_json answer) ∷ [])

-- a wait until this second since 1970, or `null`
abbrev pub wait_json : Option ℤ → List ℕ
wait_json until =
    object_text
    ((codes "event", quotation (codes "wait")) ∷ (codes "until", optional_number until) ∷ [])

-- what a keeper of a shared token did, by its number
abbrev pub step_json : ℕ → List ℕ → List ℕ
step_json keeper text =
    object_text ((codes "event", quotation (codes "step"))
    ∷ (codes "keeper", decimal keeper)
    ∷ (codes "text", quotation text) ∷ [])

-- an input that is not a script: its first bad member, and why
abbrev pub bad_script_json : ScriptFault → List ℕ
bad_script_json fault =
    object_text ((codes "event", quotation (codes "bad_script"))
    ∷ (codes "member", quotation fault.member)
    ∷ (codes "why", quotation (cause_word fault.why)) ∷ [])

-- an event
abbrev pub event_json : Event → List ℕ
event_json (exchanged request reply) = exchange_json request reply
event_json (slept nanos) = sleep_json nanos
event_json (sent_to url) = url_json url
event_json (answered json) = answer_json json
event_json (failed fault) = fault_json fault
event_json (waits until) = wait_json until
event_json (stepped keeper text) = step_json keeper text
event_json (bad_script fault) = bad_script_json fault

-- the whole run as one object and a newline
unfoldable pub result_text : List Event → List ℕ
result_text events =
    object_text ((codes "events", list_text (map event_json events)) ∷ []) ++ codes "\n"

-- the text of a run in this form
abbrev pub text_in : ResultForm → List Event → List ℕ
text_in Lines events = lines_of events
text_in Json events = result_text events
