-- What one request adds to the events of a scripted client.
use Rattle.std.proofs.Common.{String, Global, MatchResult, ◌≡◌, ℕ, List, [], ◌∷◌, ◌++◌, Bool, false, Result, Ok, Err, string_bytes, inl, inr, refl, ap, ◌∙◌, append_assoc, ◌⊎◌}
use Rattle.http_uri.specs.Uri.{SpellsNone}
use Rattle.url.specs.Parts.{Parts, serialize}
use Rattle.oauth2_codes.specs.ErrorResponse.{ErrorParts}
use Rattle.oauth2_urls.specs.Addressed.{Addressed}
use Rattle.oauth2_wire.specs.Expected.{Configuration}
use Rattle.oauth2_wire.specs.Once.{AsksOnce, not_http_text}
use Rattle.oauth2_wire.specs.Reply.{HttpResponse, Answer, ReplyView, reply_of, ShowsAnswer as ReplyShows}
use Rattle.oauth2_wire.specs.Request.{HttpRequest, RequestView, IsRequestOf, view_of}
use Rattle.oauth2_wire.specs.declared.error.RequestTokenError.{RequestTokenError}
use Rattle.oauth2_wire.specs.declared.error.RequestTokenError.TheVariants.{ServerResponse, Request, Parse, Other, Memory}
use Rattle.oauth2_wire.specs.declared.request.RequestFault.TheVariants as fault
use Rattle.oauth2_request_commands.specs.Exchange.{answer_output, reply_output, IsRequestShown, IsPostShown}
use Rattle.oauth2_world.specs.Events.{Event, exchanged}
use Rattle.oauth2_request_commands.specs.Out.{Output, success_output, no_memory_output, unsent_output, after_exchange, AddsOutput, Adds}
use Rattle.oauth2_world.specs.Replay.{Replays, ReplaysOrStarves, reply_seen, client_replies}
use Rattle.oauth2_script.specs.Replies.{Reply}
use Rattle.oauth2_world.specs.Replies.{next_reply}
use Rattle.oauth2_request_commands.specs.Faults.{end_output}
use Rattle.oauth2_world.specs.declared.replay.ScriptedClient.{ScriptedClient}
use Rattle.oauth2_world.specs.declared.replay.NoReply.{NoReply}
use Rattle.oauth2_request_commands.specs.declared.status.RunStatus.{RunStatus}

-- ---- a request, whatever it asks for

module _ {D A T E : Type 0} (meaning : D → A) (error_meaning : T → E) (shown : A → Output) (members : E → ErrorParts (List ℕ)) (says : ReplyView → Answer A E) where
  -- what is shown of a result
  abbrev output_of : Result D (RequestTokenError NoReply T) → Output
  output_of result = end_output (λ e. members (error_meaning e)) (λ d. shown (meaning d)) result

  -- the result is shown as the reply is judged, or memory ran out
  abbrev IsJudged : Result D (RequestTokenError NoReply T) → Output → Type 0
  IsJudged result o = (output_of result ≡ o) ⊎ ((sent : Bool) × (result ≡ Err (Memory sent)))

  pub judged : (view : ReplyView) (result : Result D (RequestTokenError NoReply T)) → ReplyShows meaning error_meaning (says view) result
      → IsJudged result (answer_output shown members (says view))
  judged view (Ok answer) h = inl (rw h refl)
  judged view (Err (ServerResponse e)) h = inl (rw h refl)
  judged view (Err (Parse f body)) h = inl (rw h refl)
  judged view (Err (Other given)) h = inl (rw h refl)
  judged view (Err (Memory sent)) h = inr (sent, refl)
  judged view (Err (Request e)) h = absurd h

  answered_by : (replies : List Reply) (answer : Result HttpResponse NoReply) (result : Result D (RequestTokenError NoReply T)) → reply_seen answer ≡ next_reply replies
      → MatchResult answer (λ reply. ReplyShows meaning error_meaning (says (reply_of reply)) result) (λ failure. result ≡ Err (Request failure))
      → IsJudged result (reply_output shown members says (next_reply replies))
  answered_by replies (Ok reply) result e h = rw (← e) (judged (reply_of reply) result h)
  answered_by replies (Err failure) result e h = inl (rw (← e, h) refl)

  -- a request of some kind to a URL
  module _ (IsRequest : List ℕ → RequestView → Type 0) (url : Parts)
      (old new : ScriptedClient) (events : List Event) (s : RunStatus) where
    abbrev IsOutput : Output → Type 0
    IsOutput o = IsRequestShown shown members says (IsRequest (serialize url)) url (client_replies old) o

    abbrev behind : RequestView → Output → Output
    behind request o = after_exchange request (client_replies old) o

    ends_by : (request : RequestView) (result : Result D (RequestTokenError NoReply T)) → IsJudged result (reply_output shown members says (next_reply (client_replies old)))
        → (behind request (output_of result) ≡ behind request (reply_output shown members says (next_reply (client_replies old))))
        ⊎ (behind request (output_of result) ≡ behind request no_memory_output)
    ends_by request result (inl same) = inl (ap (behind request) same)
    ends_by request result (inr (was_sent, e)) = inr (ap (λ (r : Result D (RequestTokenError NoReply T)). behind request (output_of r)) e)

    -- one call
    sent : (request : HttpRequest) → IsRequest (serialize url) (view_of request) → (answer : Result HttpResponse NoReply) → Replays old request answer new
        → (result : Result D (RequestTokenError NoReply T)) → IsJudged result (reply_output shown members says (next_reply (client_replies old)))
        → AddsOutput new.events events s (output_of result) → Adds old.events events s IsOutput
    sent request is answer replays result judged (added, ended) =
        let o = behind (view_of request) (output_of result) in
        let call : List Event = exchanged (view_of request) (next_reply (client_replies old)) ∷ [] in
        let all : events ≡ old.events ++ o.events = rw (added, replays.shows) (append_assoc old.events call (output_of result).events) in
        (o, inr (inr (view_of request, is, ends_by (view_of request) result judged)), all, ended)

    -- no call, for want of memory
    unsent : (result : Result D (RequestTokenError NoReply T)) → new.events ≡ old.events → output_of result ≡ no_memory_output
        → AddsOutput new.events events s (output_of result) → Adds old.events events s IsOutput
    unsent result same is (added, ended) =
        let all : events ≡ old.events ++ no_memory_output.events = rw (added, same, is) refl in
        (no_memory_output, inl refl, all, ended ∙ ap (λ (x : Output). x.status) is)

    -- no call, since there is no target
    not_http : (given : String Global) → string_bytes given ≡ not_http_text → SpellsNone (serialize url) → new.events ≡ old.events
        → AddsOutput new.events events s (output_of (Err (Other given))) → Adds old.events events s IsOutput
    not_http given said none same (added, ended) =
        let o = unsent_output in
        let all : events ≡ old.events ++ o.events = rw (added, same, said) refl in
        (o, inr (inl (none, refl)), all, ended)

    pub request_told : (result : Result D (RequestTokenError NoReply T))
        → AsksOnce meaning error_meaning ReplaysOrStarves says IsRequest (serialize url) old result new
        → new.is_starved ≡ false → AddsOutput new.events events s (output_of result) → Adds old.events events s IsOutput
    request_told result (Ok request, is, target, (answer, inl out, answers)) fed p = cc
    request_told result (Ok request, is, target, (answer, inr replays, answers)) fed p =
        sent request is answer replays result (answered_by (client_replies old) answer result replays.answers answers) p
    request_told (Err (Memory was_sent)) (Err kind, is, target, (no_memory, same)) fed p =
        unsent (Err (Memory was_sent)) (ap (λ (x : ScriptedClient). x.events) same) refl p
    request_told (Err (Other given)) (Err fault.NotHttp, is, target, (said, same)) fed p =
        not_http given said (target refl) (ap (λ (x : ScriptedClient). x.events) same) p
    request_told (Err (Other given)) (Err fault.Memory, is, target, none) fed p = absurd none
    request_told (Err (ServerResponse e)) (Err kind, is, target, none) fed p = absurd none
    request_told (Err (Request e)) (Err kind, is, target, none) fed p = absurd none
    request_told (Err (Parse f body)) (Err kind, is, target, none) fed p = absurd none
    request_told (Ok value) (Err kind, is, target, none) fed p = absurd none

-- a request that a configuration asks for, and its answer as JSON
module _ {D A T E : Type 0} (meaning : D → A) (error_meaning : T → E) (json : A → List ℕ) (members : E → ErrorParts (List ℕ)) (says : ReplyView → Answer A E) where
  pub exchange_told : (c : Configuration) (endpoint : Addressed) (old new : ScriptedClient) (events : List Event) (s : RunStatus) (result : Result D (RequestTokenError NoReply T))
      → AsksOnce meaning error_meaning ReplaysOrStarves says (IsRequestOf c) (serialize endpoint.url) old result new → new.is_starved ≡ false
      → AddsOutput new.events events s (end_output (λ e. members (error_meaning e)) (λ d. success_output (json (meaning d))) result)
      → Adds old.events events s (IsPostShown json members says c endpoint (client_replies old))
  exchange_told c endpoint =
      request_told meaning error_meaning (λ a. success_output (json a)) members says (IsRequestOf c) endpoint.url
