-- What a poll in the scripted world adds to its events.
use Rattle.std.proofs.Common.{◌≡◌, ◌⊎◌, inl, inr, ℕ, List, [], ◌∷◌, ◌++◌, length, map, true, false, Option, Some, None, Result, Ok, Err, codes, refl, sym, ap, ◌∙◌, append_assoc, append-nil}
use Rattle.std.specs.Prelude.{IsErrAnd}
use Rattle.std.specs.Duration.{as_nanos}
use Rattle.std.specs.declared.time.Duration.{Duration}
use Rattle.http_uri.specs.Uri.{SpellsNone}
use Rattle.jiff.specs.Types.{Timestamp}
use Rattle.url.specs.Parts.{serialize}
use Rattle.oauth2_codes.specs.Codes.{token_code_reading}
use Rattle.oauth2_codes.specs.ErrorCodes.{DeviceErrorCode}
use Rattle.oauth2_codes.specs.ErrorResponse.{ErrorParts}
use Rattle.oauth2_replies.specs.Kept.{any_object}
use Rattle.oauth2_replies.specs.Token.{token_reading}
use Rattle.oauth2_wire.specs.declared.content_type.ReplyRule.{ReplyRule}
use Rattle.oauth2_wire.specs.Once.{not_http_text, SaysOther}
use Rattle.oauth2_wire.specs.Reply.{HttpResponse, Answer, ReplyView, reply_of}
use Rattle.oauth2_wire.specs.Request.{HttpRequest, IsRequestOf, view_of}
use Rattle.oauth2_wire.specs.declared.error.RequestTokenError.TheVariants.{ServerResponse, Request, Parse, Other, Memory}
use Rattle.oauth2_poll.specs.Laws.{IsTraceOf}
use Rattle.oauth2_poll.specs.Trace as trace
use Rattle.oauth2_poll.specs.Trace.{Ending, TooLong, OutOfRange, Late, Decided, Limited, readings_in, answers_in}
use Rattle.oauth2_device.specs.DeviceToken.{DeviceToken, device_token_configuration}
use Rattle.oauth2_device.specs.Events.{PollCall, Reading, Sent, Slept, Leads, EachRequest, last_reply}
use Rattle.oauth2_device.specs.Poll.{DeviceError, device_answer, device_error, class_of, plain, input_of, IsDeviceRequest, SaysExpired, IsAnswerAt, IsPoll, Polls}
use Rattle.oauth2_world.specs.Clock.{reading_of, readings_of}
use Rattle.oauth2_request_commands.specs.DevicePoll.{calls_of, last_call, poll_answer, class_of_call, AreEventsOf, device_error_members, shown_at, IsPolled}
use Rattle.oauth2_request_commands.specs.Exchange.{BasicToken, token_json}
use Rattle.oauth2_world.specs.Events.{Event as ShownEvent, exchanged, slept}
use Rattle.oauth2_request_commands.specs.Out.{Output, after, success_output, no_memory_output, other_output, refused_output, unsent_output, AddsOutput, Adds}
use Rattle.oauth2_world.specs.Replies.{next_reply}
use Rattle.oauth2_world.specs.Replay.{ReplaysOrStarves, reply_seen, client_replies}
use Rattle.oauth2_request_commands.specs.private.Results.{TokenSeen, token_meaning}
use Rattle.oauth2_world.specs.World.{Reads, Sends, Shows, Sleeps}
use Rattle.oauth2_world.specs.declared.replay.NoReply.{NoReply}
use Rattle.oauth2_request_commands.specs.declared.status.RunStatus.{RunStatus}
use Rattle.oauth2_world.specs.declared.world.ScriptedWorld.{ScriptedWorld}
use Rattle.oauth2_request_commands.proofs.Exchanges.{judged}
use Rattle.oauth2_request_commands.proofs.Results.{DeviceFault, poll_output}

-- what a reply says to the device
abbrev says : ReplyRule → HttpResponse → Answer BasicToken DeviceError
says rule = device_answer rule (token_reading any_object token_code_reading)

class_told : (rule : ReplyRule) (a : Result HttpResponse NoReply) → class_of (says rule) a ≡ class_of_call rule (reply_seen a)
class_told rule (Ok reply) = refl
class_told rule (Err e) = refl

abbrev last_said : Option (Result HttpResponse NoReply) → Option ReplyView
last_said None = None
last_said (Some a) = reply_seen a

-- what the calls of a world that was not refused memory tell
record Told (r : DeviceToken) (w : ScriptedWorld) (e : List (PollCall NoReply)) (v : ScriptedWorld) : Type 0 where
  is_fed : w.http_client.is_starved ≡ false
  shows : readings_in (plain (says r.base.reply_rule) e) ≡ readings_of w.clock (length (readings_in (plain (says r.base.reply_rule) e)))
  answers : answers_in (plain (says r.base.reply_rule) e) ≡ map (class_of_call r.base.reply_rule) (calls_of (client_replies w.http_client) (length (answers_in (plain (says r.base.reply_rule) e))))
  last : (before : Option (Result HttpResponse NoReply)) → last_said (last_reply before e)
      ≡ last_call (last_said before) (calls_of (client_replies w.http_client) (length (answers_in (plain (says r.base.reply_rule) e))))
  shown : List ShownEvent
  are_shown : AreEventsOf (IsRequestOf (device_token_configuration r) (serialize r.token_url.url)) (client_replies w.http_client) (plain (says r.base.reply_rule) e) shown
  added : v.http_client.events ≡ w.http_client.events ++ shown

-- events after events
after_events : (old now new shown added : List ShownEvent) → new ≡ now ++ added → now ≡ old ++ shown → new ≡ old ++ (shown ++ added)
after_events old now new shown added grown so_far = rw (grown, so_far) (append_assoc old shown added)

module _ (r : DeviceToken) where
  abbrev Requests : List (PollCall NoReply) → Type 0
  Requests e = EachRequest (IsDeviceRequest r) e

  module _ (w u : ScriptedWorld) (e : List (PollCall NoReply)) (v : ScriptedWorld) (k : Told r u e v) where
    read_told : (t : Timestamp) → Reads w t u → Told r w (Reading t ∷ e) v
    read_told t reads =
        record {
          is_fed = rw reads.client at k.is_fed;
          shows = rw reads.shows (ap (λ ts. reading_of w.clock ∷ ts) (rw reads.goes_on at k.shows));
          answers = rw reads.client at k.answers;
          last = rw reads.client at k.last;
          shown = k.shown;
          are_shown = rw reads.client at k.are_shown;
          added = rw reads.client at k.added;
        }

    sent_told : (q : HttpRequest) (a : Result HttpResponse NoReply) → IsDeviceRequest r q → Sends w q a u → Told r w (Sent q a ∷ e) v
    sent_told q a is sends = go sends.client
      where
        go : ReplaysOrStarves w.http_client q a u.http_client → Told r w (Sent q a ∷ e) v
        go (inl out) = let fed_then = k.is_fed in cc
        go (inr replays) =
            let means : class_of (says r.base.reply_rule) a ≡ class_of_call r.base.reply_rule (next_reply (client_replies w.http_client)) = class_told r.base.reply_rule a ∙ ap (class_of_call r.base.reply_rule) replays.answers in
            let call : ShownEvent = exchanged (view_of q) (next_reply (client_replies w.http_client)) in
            record {
              is_fed = sym replays.is_fed ∙ k.is_fed;
              shows = rw sends.clock at k.shows;
              answers = rw means (ap (λ rest. class_of_call r.base.reply_rule (next_reply (client_replies w.http_client)) ∷ rest) (rw replays.goes_on at k.answers));
              last = λ before. rw (replays.goes_on, replays.answers) at (k.last (Some a));
              shown = call ∷ k.shown;
              are_shown = (view_of q, k.shown, is, rw replays.goes_on at k.are_shown, refl);
              added =
                  after_events w.http_client.events u.http_client.events v.http_client.events
                  (call ∷ []) k.shown k.added replays.shows;
            }

    slept_told : (d : Duration) → Sleeps w d u → Told r w (Slept d ∷ e) v
    slept_told d sleeps = go sleeps.client
      where
        go : ((u.http_client.is_starved ≡ true) ⊎ Shows w d u) → Told r w (Slept d ∷ e) v
        go (inl out) = let fed_then = k.is_fed in cc
        go (inr shows) =
            record {
              is_fed = sym shows.is_fed ∙ k.is_fed;
              shows = rw sleeps.clock at k.shows;
              answers = rw shows.replies at k.answers;
              last = rw shows.replies at k.last;
              shown = slept (as_nanos d) ∷ k.shown;
              are_shown = (k.shown, rw shows.replies at k.are_shown, refl);
              added =
                  after_events w.http_client.events u.http_client.events v.http_client.events
                  (slept (as_nanos d) ∷ []) k.shown k.added shows.events;
            }

  told : (w : ScriptedWorld) (e : List (PollCall NoReply)) (v : ScriptedWorld) → Requests e → Leads Reads Sends Sleeps w e v
      → v.http_client.is_starved ≡ false → Told r w e v
  told w [] v requests h fed =
      record {
        is_fed = rw h fed;
        shows = refl;
        answers = refl;
        last = λ before. refl;
        shown = [];
        are_shown = refl;
        added = rw h (sym (append-nil v.http_client.events));
      }
  told w (Reading t ∷ e) v requests (u, reads, rest) fed = read_told w u e v (told u e v requests rest fed) t reads
  told w (Sent q a ∷ e) v (is, requests) (u, sends, rest) fed = sent_told w u e v (told u e v requests rest fed) q a is sends
  told w (Slept d ∷ e) v requests (u, sleeps, rest) fed = slept_told w u e v (told u e v requests rest fed) d sleeps

-- ---- the end

says_other : (text : List ℕ) (result : Result TokenSeen DeviceFault) → IsErrAnd result (SaysOther text) → poll_output result ≡ other_output text
says_other text (Ok token) h = absurd h
says_other text (Err (ServerResponse e)) h = absurd h
says_other text (Err (Request e)) h = absurd h
says_other text (Err (Parse f body)) h = absurd h
says_other text (Err (Other said)) h = ap (λ (t : List ℕ). other_output t) h
says_other text (Err (Memory sent)) h = absurd h

says_expired : (rule : ReplyRule) (n : ℕ) (calls : List (Option ReplyView)) (result : Result TokenSeen DeviceFault) → IsErrAnd result SaysExpired → poll_output result ≡ shown_at rule (Late n) calls
says_expired rule n calls (Ok token) h = absurd h
says_expired rule n calls (Err (ServerResponse e)) h = ap (λ (parts : ErrorParts DeviceErrorCode). refused_output (device_error_members parts)) h
says_expired rule n calls (Err (Request e)) h = absurd h
says_expired rule n calls (Err (Parse f body)) h = absurd h
says_expired rule n calls (Err (Other said)) h = absurd h
says_expired rule n calls (Err (Memory sent)) h = absurd h

-- the answer that fits an end, or want of memory there
at_end : (rule : ReplyRule) (ending : Ending) (e : List (PollCall NoReply)) (result : Result TokenSeen DeviceFault) (calls : List (Option ReplyView))
    → last_said (last_reply None e) ≡ last_call None calls → IsAnswerAt token_meaning (says rule) ending e result
    → (poll_output result ≡ shown_at rule ending calls) ⊎ (poll_output result ≡ no_memory_output)
at_end rule TooLong e result calls last h = inl (says_other (codes "failed to convert the timeout") result h)
at_end rule OutOfRange e result calls last h = inl (says_other (codes "failed to calculate timeout") result h)
at_end rule (Late n) e result calls last h = inl (says_expired rule n calls result h)
at_end rule (Limited n) e result calls last h = inl (says_other (codes "polling limit reached") result h)
at_end rule (Decided n) e result calls last (reply, is, shows) =
    let said : last_call None calls ≡ Some (reply_of reply) = sym last ∙ ap last_said is in
    elim (judged token_meaning device_error (λ token. success_output (token_json token)) device_error_members (poll_answer rule) (reply_of reply) result shows) [
      | inl same ↦ inl (rw said same)
      | inr (sent, memory) ↦ inr (ap poll_output memory)
    ]

module _ (r : DeviceToken) (timeout max_polls : ℕ) (w : ScriptedWorld) (e : List (PollCall NoReply)) (v : ScriptedWorld) (events : List ShownEvent) (s : RunStatus) (result : Result TokenSeen DeviceFault) where
  abbrev IsOutput : Output → Type 0
  IsOutput o = IsPolled r timeout max_polls w.clock (client_replies w.http_client) o

  abbrev calls : List (Option ReplyView)
  calls = calls_of (client_replies w.http_client) (length (answers_in (plain (says r.base.reply_rule) e)))

  -- these events, and this end
  polled : (k : Told r w e v) (o : Output) (done : IsTraceOf (input_of r timeout max_polls (plain (says r.base.reply_rule) e)) (plain (says r.base.reply_rule) e))
      → (((done.rest ≡ []) × (o ≡ after k.shown (shown_at r.base.reply_rule done.ending calls)))
      ⊎ ((o ≡ after k.shown no_memory_output)
      ⊎ (SpellsNone (serialize r.token_url.url)
      × ((start moment : _) × (plain (says r.base.reply_rule) e ≡ trace.Reading start ∷ trace.Reading moment ∷ []))
      × (¬ (trace.IsLate (input_of r timeout max_polls (plain (says r.base.reply_rule) e)) 1))
      × (o ≡ after k.shown unsent_output)))) → IsOutput o
  polled k o done end =
      record {
        events = plain (says r.base.reply_rule) e;
        shows = k.shows;
        calls = calls;
        are_calls = refl;
        answers = k.answers;
        done = done;
        shown = k.shown;
        are_shown = k.are_shown;
        end = end;
      }

  pub poll_told : Polls token_meaning (token_reading any_object token_code_reading) r timeout max_polls e result
      → Leads Reads Sends Sleeps w e v → v.http_client.is_starved ≡ false
      → AddsOutput v.http_client.events events s (poll_output result) → Adds w.http_client.events events s IsOutput
  poll_told polls led fed (grown, ended) = (o, by polls.poll, all, ended)
    where
      k : Told r w e v
      k = told r w e v polls.requests led fed

      o : Output
      o = after k.shown (poll_output result)

      all : events ≡ w.http_client.events ++ o.events
      all =
          after_events w.http_client.events v.http_client.events events k.shown (poll_output result).events grown k.added

      by : IsPoll token_meaning (says r.base.reply_rule) (SpellsNone (serialize r.token_url.url)) (input_of r timeout max_polls (plain (says r.base.reply_rule) e)) e result → IsOutput o
      by (inl whole) =
          elim (at_end r.base.reply_rule whole.done.ending e result calls (k.last None) whole.answer) [
            | inl same ↦ polled k o whole.done (inl (whole.to_the_end, ap (after k.shown) same))
            | inr memory ↦ polled k o whole.done (inr (inl (ap (after k.shown) memory)))
          ]
      by (inr (inl cut)) = polled k o cut.done (inr (inl (ap (λ (x : Result TokenSeen DeviceFault). after k.shown (poll_output x)) cut.answer)))
      by (inr (inr unsent)) =
          polled k o unsent.done
          (inr (inr (
            unsent.not_http,
            (unsent.start.nanosecond, unsent.moment.nanosecond, ap (plain (says r.base.reply_rule)) unsent.events),
            unsent.in_time,
            ap (after k.shown) (says_other not_http_text result unsent.answer),
          )))
