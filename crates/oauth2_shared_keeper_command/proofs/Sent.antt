-- What one sending of a refresh token adds to the events, and what goes on after it.
use Rattle.std.proofs.Common.{MatchResult, ◌≡◌, ℕ, List, [], ◌∷◌, ◌++◌, Bool, false, Option, None, Result, Ok, Err, inl, inr, refl, ap, sym, ◌∙◌, append_assoc, ◌⊎◌}
use Rattle.url.specs.Parts.{serialize}
use Rattle.oauth2_codes.specs.ErrorCodes.{error_code, error_code_text}
use Rattle.oauth2_codes.specs.ErrorResponse.{parts_of}
use Rattle.oauth2_urls.specs.Addressed.{Addressed}
use Rattle.oauth2_wire.specs.declared.content_type.ReplyRule.{ReplyRule}
use Rattle.oauth2_wire.specs.Expected.{Configuration}
use Rattle.oauth2_wire.specs.Once.{AsksOnce}
use Rattle.oauth2_wire.specs.Reply.{HttpResponse, ReplyView, reply_of, ShowsAnswer as ReplyShows}
use Rattle.oauth2_wire.specs.Request.{HttpRequest, RequestView, IsRequestOf, view_of}
use Rattle.oauth2_wire.specs.declared.error.RequestTokenError.TheVariants.{ServerResponse, Request, Parse, Other, Memory}
use Rattle.oauth2_wire.specs.declared.request.RequestFault.TheVariants as fault
use Rattle.oauth2_script.specs.Replies.{Reply}
use Rattle.oauth2_world.specs.Events.{Event, exchanged}
use Rattle.oauth2_world.specs.Replay.{Replays, ReplaysOrStarves, reply_seen, client_replies}
use Rattle.oauth2_world.specs.Replies.{next_reply}
use Rattle.oauth2_world.specs.declared.replay.NoReply.{NoReply}
use Rattle.oauth2_world.specs.declared.replay.ScriptedClient.{ScriptedClient}
use Rattle.oauth2_request_commands.specs.Exchange.{answer_output, error_members, token_answer, token_json}
use Rattle.oauth2_request_commands.specs.Faults.{end_output}
use Rattle.oauth2_request_commands.specs.Out.{Output, success_output, no_memory_output, unsent_output, after_exchange, AddsOutput}
use Rattle.oauth2_request_commands.specs.declared.status.RunStatus.{RunStatus}
use Rattle.oauth2_request_commands.specs.private.Results.{ShownFault, TokenSeen, token_meaning, error_seen}
use Rattle.oauth2_shared_keeper_command.specs.Refreshing.{goes_on, given_by, shown_of, IsSentOnce}
use Rattle.oauth2_shared_keeper_command.specs.private.Given.{given_in}

-- what is shown of a result
abbrev pub shown : Result TokenSeen ShownFault → Output
shown result = end_output error_seen (λ t. success_output (token_json (token_meaning t))) result

module _ (rule : ReplyRule) (sent : List ℕ) where
  -- a result is shown, and goes on, as the reply is judged, or memory ran out
  abbrev IsJudged : Result TokenSeen ShownFault → Output → Option (List ℕ) → Type 0
  IsJudged result o given = ((shown result ≡ o) × (given_in sent result ≡ given)) ⊎ ((was_sent : Bool) × (result ≡ Err (Memory was_sent)))

  judged : (view : ReplyView) (result : Result TokenSeen ShownFault) → ReplyShows token_meaning (parts_of error_code) (token_answer rule view) result
      → IsJudged result (answer_output (λ token. success_output (token_json token)) (error_members error_code_text) (token_answer rule view)) (goes_on sent (token_answer rule view))
  judged view (Ok answer) h = inl (rw h refl, rw h refl)
  judged view (Err (ServerResponse e)) h = inl (rw h refl, rw h refl)
  judged view (Err (Parse f body)) h = inl (rw h refl, rw h refl)
  judged view (Err (Other given)) h = inl (rw h refl, rw h refl)
  judged view (Err (Memory was_sent)) h = inr (was_sent, refl)
  judged view (Err (Request e)) h = absurd h

  answered_by : (replies : List Reply) (answer : Result HttpResponse NoReply) (result : Result TokenSeen ShownFault) → reply_seen answer ≡ next_reply replies
      → MatchResult answer (λ reply. ReplyShows token_meaning (parts_of error_code) (token_answer rule (reply_of reply)) result) (λ failure. result ≡ Err (Request failure))
      → IsJudged result (shown_of rule (next_reply replies)) (given_by rule sent (next_reply replies))
  answered_by replies (Ok reply) result e h = rw (← e) (judged (reply_of reply) result h)
  answered_by replies (Err failure) result e h = inl (rw (← e, h) refl, rw (← e, h) refl)

  module _ (c : Configuration) (url : Addressed) (old new : ScriptedClient) (events : List Event) (s : RunStatus) where
    abbrev IsTold : Option (List ℕ) → Type 0
    IsTold given =
        (old.is_starved ≡ false)
        × ((o : Output) × IsSentOnce rule c sent (client_replies old) url o given (client_replies new) × AddsOutput old.events events s o)

    abbrev behind : RequestView → Output → Output
    behind request o = after_exchange request (client_replies old) o

    ends_by : (request : RequestView) (result : Result TokenSeen ShownFault) → IsJudged result (shown_of rule (next_reply (client_replies old))) (given_by rule sent (next_reply (client_replies old)))
        → ((behind request (shown result) ≡ behind request (shown_of rule (next_reply (client_replies old))))
        × (given_in sent result ≡ given_by rule sent (next_reply (client_replies old))))
        ⊎ ((behind request (shown result) ≡ behind request no_memory_output) × (given_in sent result ≡ None))
    ends_by request result (inl (same, given)) = inl (ap (behind request) same, given)
    ends_by request result (inr (was_sent, e)) =
        inr (ap (λ (r : Result TokenSeen ShownFault). behind request (shown r)) e, ap (given_in sent) e)

    -- one call
    sent_once : (request : HttpRequest) → IsRequestOf c (serialize url.url) (view_of request) → (answer : Result HttpResponse NoReply) → Replays old request answer new
        → (result : Result TokenSeen ShownFault) → IsJudged result (shown_of rule (next_reply (client_replies old))) (given_by rule sent (next_reply (client_replies old)))
        → new.is_starved ≡ false → AddsOutput new.events events s (shown result) → IsTold (given_in sent result)
    sent_once request is answer replays result by_reply fed (added, ended) =
        let o = behind (view_of request) (shown result) in
        let call : List Event = exchanged (view_of request) (next_reply (client_replies old)) ∷ [] in
        let all : events ≡ old.events ++ o.events = rw (added, replays.shows) (append_assoc old.events call (shown result).events) in
        (sym replays.is_fed ∙ fed, (o, inr (inr (view_of request, is, (ends_by (view_of request) result by_reply, replays.goes_on))), (all, ended)))

    pub refresh_told : (result : Result TokenSeen ShownFault)
        → AsksOnce token_meaning (parts_of error_code) ReplaysOrStarves (token_answer rule) (IsRequestOf c) (serialize url.url) old result new
        → new.is_starved ≡ false → AddsOutput new.events events s (shown result) → IsTold (given_in sent result)
    refresh_told result (Ok request, is, target, (answer, inl out, answers)) fed p = cc
    refresh_told result (Ok request, is, target, (answer, inr replays, answers)) fed p =
        sent_once request is answer replays result (answered_by (client_replies old) answer result replays.answers answers) fed p
    refresh_told (Err (Memory was_sent)) (Err kind, is, target, (no_memory, same)) fed (added, ended) =
        let all : events ≡ old.events ++ no_memory_output.events = rw (added, ap (λ (x : ScriptedClient). x.events) same) refl in
        (ap (λ (x : ScriptedClient). x.is_starved) (sym same) ∙ fed, (no_memory_output, inl (refl, refl, ap client_replies same), (all, ended)))
    refresh_told (Err (Other given)) (Err fault.NotHttp, is, target, (said, same)) fed (added, ended) =
        let all : events ≡ old.events ++ unsent_output.events = rw (added, ap (λ (x : ScriptedClient). x.events) same, said) refl in
        (ap (λ (x : ScriptedClient). x.is_starved) (sym same) ∙ fed, (unsent_output, inr (inl (target refl, refl, refl, ap client_replies same)), (all, ended)))
    refresh_told (Err (Other given)) (Err fault.Memory, is, target, none) fed p = absurd none
    refresh_told (Err (ServerResponse e)) (Err kind, is, target, none) fed p = absurd none
    refresh_told (Err (Request e)) (Err kind, is, target, none) fed p = absurd none
    refresh_told (Err (Parse f body)) (Err kind, is, target, none) fed p = absurd none
    refresh_told (Ok value) (Err kind, is, target, none) fed p = absurd none
