-- The events of a run as lines.
use Rattle.std.specs.Prelude.{ℕ, ◌-◌, ◌/◌, ◌%◌, ℤ, List, [], ◌++◌, length, replicate, Option, codes}
use Rattle.std.specs.Fmt.{decimal}
use Rattle.std.specs.List.{flat_map}
use Rattle.oauth2_world.specs.Events.{Details, none, refused, unread, Fault, Event, exchanged, slept, sent_to, answered, failed, waits, stepped, bad_script}
use Rattle.oauth2_world.specs.Quotation.{quotation}
use Rattle.oauth2_results.specs.Json.{optional_number}
use Rattle.oauth2_results.specs.RequestLines.{line, request_lines}
use Rattle.oauth2_results.specs.Words.{cause_name}

-- a number in decimal, with zeros in front up to nine digits
abbrev pub nine_digits : ℕ → List ℕ
nine_digits n = replicate (9 - length (decimal n)) 48 ++ decimal n

-- the line `sleep S.N`: whole seconds, and nine digits of nanoseconds
unfoldable pub sleep_line : ℕ → List ℕ
sleep_line nanos =
    line
    (codes "sleep " ++ decimal (nanos / 1_000_000_000) ++ codes "." ++ nine_digits (nanos % 1_000_000_000))

-- the line `url "U"`
unfoldable pub url_line : List ℕ → List ℕ
url_line url = line (codes "url " ++ quotation url)

-- the line `answer ok J`, with a JSON text
unfoldable pub answer_line : List ℕ → List ℕ
answer_line json = line (codes "answer ok " ++ json)

-- behind the text of a fault: the member of a body that could not be read, and the cause
unfoldable pub unread_words : Details → List ℕ
unread_words none = []
unread_words (refused members) = []
unread_words (unread fault) =
    codes " " ++ quotation fault.member ++ codes " " ++ cause_name fault.cause

-- the line `answer fault "D"`, with the text of a fault
unfoldable pub fault_line : Fault → List ℕ
fault_line fault =
    line (codes "answer fault " ++ quotation fault.text ++ unread_words fault.details)

-- the line `answer waits T`: until this second since 1970, or `null`
unfoldable pub wait_line : Option ℤ → List ℕ
wait_line until = line (codes "answer waits " ++ optional_number until)

-- the line `keeper N T`: what a keeper of a shared token did, by its number
unfoldable pub step_line : ℕ → List ℕ → List ℕ
step_line keeper text = line (codes "keeper " ++ decimal keeper ++ codes " " ++ text)

-- the line `bad script`
unfoldable pub bad_script_line : List ℕ
bad_script_line = line (codes "bad script")

-- the lines of an event; a reply has none
abbrev pub event_lines : Event → List ℕ
event_lines (exchanged request reply) = request_lines request
event_lines (slept nanos) = sleep_line nanos
event_lines (sent_to url) = url_line url
event_lines (answered json) = answer_line json
event_lines (failed fault) = fault_line fault
event_lines (waits until) = wait_line until
event_lines (stepped keeper text) = step_line keeper text
event_lines (bad_script fault) = bad_script_line

-- the lines of a run
abbrev pub lines_of : List Event → List ℕ
lines_of events = flat_map event_lines events
