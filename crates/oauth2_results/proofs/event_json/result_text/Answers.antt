use Rattle.std.proofs.Common.{◌≡◌, ◌∙◌, [], ◌∷◌, map, string_bytes, codes, ap, arith}
use Rattle.std.proofs.lemmas.List.{take_all}
use Rattle.oauth2_world.specs.Events.{event_of}
use Rattle.oauth2_results.specs.Json.{list_text, object_text}
use Rattle.oauth2_results.specs.Result.{event_json, result_text}
use Rattle.oauth2_results.proofs.event_json.result_text.Goals as goal

pub returns : goal.returns
unfolding result_text
returns c =
    let events = c.args.events.now in
    let all : map string_bytes c.loop-event.items.items ≡ map event_json (map event_of events) =
    c.loop-event.invariant ∙ ap (λ es. map event_json (map event_of es)) (take_all c.loop-event.event-index events (omega arith)) in
    let list : string_bytes c.in_ok-list.list ≡ list_text (map event_json (map event_of events)) =
    c.in_ok-list.ensures ∙ ap (λ items. list_text (map string_bytes items)) c.as_slice.ensures.value ∙ ap list_text all in
    let json : string_bytes c.in_ok-json.json ≡ object_text ((codes "events", list_text (map event_json (map event_of events))) ∷ []) =
    rw (c.as_str.ensures.value, list) at c.in_ok-json.ensures in
    rw (← json) c.in_ok-text.ensures.ok
