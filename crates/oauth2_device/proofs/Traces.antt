-- The events of a poll so far, and what they become in the next round.
use Rattle.std.proofs.Common.{◌≡◌, ◌≢◌, inl, inr, ℕ, suc, ◌<◌, ◌≤◌, List, [], ◌∷◌, ◌++◌, map, length, Bool, true, false, Some, None, Result, Ok, Err, refl, ap, sym, ◌∙◌, arith, append_assoc, subst, length-append}
use Rattle.std.specs.Prelude.{slice_get, codes, IsErrAnd, ℤ, pos, ◌+ℤ◌, ◌<ℤ◌}
use Rattle.std.specs.declared.time.Duration.{Duration}
use Rattle.std.specs.Duration.{as_nanos, max_nanos}
use Rattle.std.proofs.lemmas.List.{map-append, append-nil}
use Rattle.http_uri.specs.Uri.{SpellsNone}
use Rattle.jiff.specs.Types.{Timestamp}
use Rattle.jiff.specs.Words.{IsTimestampNanos}
use Rattle.serde_json.specs.Data.{Data}
use Rattle.url.specs.Parts.{serialize}
use Rattle.oauth2_json.specs.Reading.{Reading as JsonReading}
use Rattle.oauth2_poll.specs.declared.device_poll.PollAnswer.{PollAnswer}
use Rattle.oauth2_poll.specs.declared.device_poll.PollAnswer.TheVariants.{Deciding}
use Rattle.oauth2_poll.specs.State.{PollState}
use Rattle.oauth2_poll.specs.Step.{TimeoutFits, state_after}
use Rattle.oauth2_poll.specs.Trace as trace
use Rattle.oauth2_poll.specs.Trace.{PollInput, Ending, IsEnding, poll_events, readings_in, answers_in, TooLong, OutOfRange, Late, Decided, Limited}
use Rattle.oauth2_poll.specs.Laws.{IsTraceOf}
use Rattle.oauth2_poll.proofs.Open.{IsOpen, reached, late, not_late, open_start, late_plan, decided_plan, open_next}
use Rattle.oauth2_poll.proofs.Extend.{more, open_more, readings_in-append, answers_in-append}
use Rattle.oauth2_poll.proofs.Plans.{goes, reads, an_ending}
use Rattle.oauth2_poll.proofs.Lists.{slice_get-append_here}
use Rattle.oauth2_poll.proofs.Sleeps.{each_sleep_is_paced}
use Rattle.oauth2_poll.proofs.Requests.{requests_are_bounded}
use Rattle.oauth2_wire.specs.declared.error.RequestTokenError.TheVariants as token
use Rattle.oauth2_wire.specs.Once.{not_http_text, SaysOther}
use Rattle.oauth2_wire.specs.Request.{HttpRequest}
use Rattle.oauth2_wire.specs.Reply.{HttpResponse, Answer}
use Rattle.oauth2_device.specs.DeviceToken.{DeviceToken}
use Rattle.oauth2_device.specs.Events.{PollCall, Reading, Sent, Slept, EachRequest, has_request}
use Rattle.oauth2_device.specs.Poll.{DeviceError, PollError, SaysExpired, IsDeviceRequest, class_of, plain, input_of, device_answer, IsWhole, IsUnsendable, IsPoll, Polls}
use Rattle.oauth2_device.specs.private.Round.{OrMemory, IsDecision, EndsUnsent, EndsSent, IsTurn}
use Rattle.oauth2_device.proofs.LeadsFacts.{EachRequest-append, none_sent, has_request-unsent, has_request-sent, last_reply-append}

-- the input grows with the events
input-append : (r : DeviceToken) (timeout max_polls : ℕ) (xs ys : List trace.TraceEvent) → input_of r timeout max_polls (xs ++ ys) ≡ more (input_of r timeout max_polls xs) (readings_in ys) (answers_in ys)
input-append r timeout max_polls xs ys = rw (readings_in-append xs ys, answers_in-append xs ys) refl

-- the endpoint is no HTTP target
abbrev pub NotHttp : DeviceToken → Type 0
NotHttp r = SpellsNone (serialize r.token_url.url)

-- no request is then that of the device
pub no_request : (r : DeviceToken) → NotHttp r → (request : HttpRequest) → IsDeviceRequest r request → ⊥
no_request r none request is = none _ _ _ is.target

module _ {A : Type 0} (says : HttpResponse → Answer A DeviceError) where
  pub plain-append : {RE : Type 0} (e f : List (PollCall RE)) → plain says (e ++ f) ≡ plain says e ++ plain says f
  plain-append [] f = refl
  plain-append (Reading t ∷ e) f = ap (λ (l : List trace.TraceEvent). trace.Reading t.nanosecond ∷ l) (plain-append e f)
  plain-append (Sent r a ∷ e) f = ap (λ (l : List trace.TraceEvent). trace.Asked ∷ trace.Answered (class_of says a) ∷ l) (plain-append e f)
  plain-append (Slept d ∷ e) f = ap (λ (l : List trace.TraceEvent). trace.Slept (as_nanos d) ∷ l) (plain-append e f)

  no_answers : {RE : Type 0} (e : List (PollCall RE)) → has_request e ≡ false → length (answers_in (plain says e)) ≡ 0
  no_answers [] h = refl
  no_answers (Reading t ∷ e) h = no_answers e h
  no_answers (Sent r a ∷ e) h = cc
  no_answers (Slept d ∷ e) h = no_answers e h

  -- one reading and nothing else
  one_reading : {RE : Type 0} (e : List (PollCall RE)) (s : ℤ) → has_request e ≡ false → map Some (plain says e) ≡ Some (trace.Reading s) ∷ [] → (t : Timestamp) × (e ≡ Reading t ∷ [])
  one_reading [] s h k = cc
  one_reading (Reading t ∷ []) s h k = (t, refl)
  one_reading (Reading t ∷ Reading u ∷ e) s h k = cc
  one_reading (Reading t ∷ Sent r a ∷ e) s h k = cc
  one_reading (Reading t ∷ Slept d ∷ e) s h k = cc
  one_reading (Sent r a ∷ e) s h k = cc
  one_reading (Slept d ∷ e) s h k = cc

module _ {D A RE : Type 0} (meaning : D → A) (says : HttpResponse → Answer A DeviceError) (r : DeviceToken) (timeout max_polls : ℕ) where
  -- these events gave this result
  abbrev pub Ended : List (PollCall RE) → Result D (PollError RE) → Type 0
  Ended e result = IsPoll meaning says (NotHttp r) (input_of r timeout max_polls (plain says e)) e result

  -- the whole plan was carried out
  abbrev whole : (p : PollInput) (e : List (PollCall RE)) (end : Ending) → IsEnding p end → map Some (plain says e) ≡ poll_events p end → IsTraceOf p (plain says e)
  whole p e end is h = record { ending = end; is_ending = is; rest = []; is = sym h ∙ sym (append-nil (map Some (plain says e))) }

  -- an answer of an end, or want of memory there
  ended : (e : List (PollCall RE)) (sent : Bool) (IsError : PollError RE → Type 0) (error : PollError RE) (done : IsTraceOf (input_of r timeout max_polls (plain says e)) (plain says e)) → done.rest ≡ []
      → (IsError error → IsWhole meaning says (input_of r timeout max_polls (plain says e)) e (Err error)) → has_request e ≡ sent → OrMemory IsError sent error → Ended e (Err error)
  ended e sent IsError error done to_the_end answers is (inl h) = inl (answers h)
  ended e sent IsError error done to_the_end answers is (inr h) = inr (inl (record { done = done; answer = ap Err (h ∙ ap token.Memory (sym is)) }))

  -- the start
  pub too_long : (error : PollError RE) → ¬ (TimeoutFits timeout) → OrMemory (SaysOther (codes "failed to convert the timeout")) false error → Ended [] (Err error)
  too_long error h says_so =
      let done : IsTraceOf (input_of r timeout max_polls []) [] = record { ending = TooLong; is_ending = h; rest = []; is = refl } in
      ended [] false (SaysOther (codes "failed to convert the timeout")) error done refl (λ s. record { done = done; to_the_end = refl; answer = s }) refl says_so

  pub out_of_range : (t : Timestamp) (error : PollError RE) → TimeoutFits timeout → ¬ (IsTimestampNanos (t.nanosecond +ℤ pos timeout)) → OrMemory (SaysOther (codes "failed to calculate timeout")) false error → Ended (Reading t ∷ []) (Err error)
  out_of_range t error fits h says_so =
      let done : IsTraceOf (input_of r timeout max_polls (trace.Reading t.nanosecond ∷ [])) (trace.Reading t.nanosecond ∷ []) = record { ending = OutOfRange; is_ending = (fits, (t.nanosecond, refl, h)); rest = []; is = refl } in
      ended (Reading t ∷ []) false (SaysOther (codes "failed to calculate timeout")) error done refl (λ s. record { done = done; to_the_end = refl; answer = s }) refl says_so

  -- rounds are over, and none ended the poll
  pub record SoFar (e : List (PollCall RE)) (poll : PollState) (sent : Bool) : Type 0 where
    pub requests : EachRequest (IsDeviceRequest r) e
    pub is_open : IsOpen (input_of r timeout max_polls (plain says e)) (length (answers_in (plain says e))) (plain says e) poll
    pub counts : length (readings_in (plain says e)) ≡ suc (length (answers_in (plain says e)))
    pub sent_is : has_request e ≡ sent

  pub started : (t : Timestamp) (poll : PollState) → TimeoutFits timeout → IsTimestampNanos (t.nanosecond +ℤ pos timeout) → 0 < max_polls → poll ≡ record { interval = r.interval; cap = r.max_backoff_interval; deadline = t.nanosecond +ℤ pos timeout; polls_left = max_polls } → SoFar (Reading t ∷ []) poll false
  started t poll fits in_range some_left is =
      record {
        requests = tt;
        is_open = open_start _ t.nanosecond poll refl fits in_range some_left is;
        counts = refl;
        sent_is = refl;
      }

  module _ (e : List (PollCall RE)) (poll : PollState) (sent : Bool) (s : SoFar e poll sent) where
    abbrev k : ℕ
    k = length (answers_in (plain says e))

    grown : (ys : List trace.TraceEvent) → IsOpen (input_of r timeout max_polls (plain says e ++ ys)) k (plain says e) poll
    grown ys = rw (input-append r timeout max_polls (plain says e) ys) (open_more (input_of r timeout max_polls (plain says e)) (readings_in ys) (answers_in ys) k (plain says e) poll s.is_open)

    reading_here : (t : ℤ) (ys : List trace.TraceEvent) → slice_get (input_of r timeout max_polls (plain says e ++ trace.Reading t ∷ ys)).readings (suc k) ≡ Some t
    reading_here t ys =
        rw (← s.counts, readings_in-append (plain says e) (trace.Reading t ∷ ys)) (slice_get-append_here (readings_in (plain says e)) t (readings_in ys))

    answer_here : (t : ℤ) (a : PollAnswer) (ys : List trace.TraceEvent) → slice_get (input_of r timeout max_polls (plain says e ++ trace.Reading t ∷ trace.Asked ∷ trace.Answered a ∷ ys)).answers k ≡ Some a
    answer_here t a ys =
        rw (answers_in-append (plain says e) (trace.Reading t ∷ trace.Asked ∷ trace.Answered a ∷ ys)) (slice_get-append_here (answers_in (plain says e)) a (answers_in ys))

    module _ (t : Timestamp) where
      abbrev read : List (PollCall RE)
      read = Reading t ∷ []

      late_exit : (error : PollError RE) → poll.deadline <ℤ t.nanosecond → SaysExpired error → IsWhole meaning says (input_of r timeout max_polls (plain says (e ++ read))) (e ++ read) (Err error)
      late_exit error after expired =
          let o = grown (plain says read) in
          let here = reading_here t.nanosecond [] in
          rw (plain-append says e read) (record {
            done = whole _ _ (Late (suc k)) (reached _ k _ poll o, late _ k _ poll t.nanosecond o here after) (rw (plain-append says e read) (late_plan _ k _ poll t.nanosecond o here));
            to_the_end = refl;
            answer = expired;
          })

      cut_before : IsTraceOf (input_of r timeout max_polls (plain says (e ++ read))) (plain says (e ++ read))
      cut_before =
          let o = grown (plain says read) in
          let here = reading_here t.nanosecond [] in
          let x = an_ending _ k _ poll o in
          let g = reads _ k _ poll o x.0 x.1 x.2 in
          rw (plain-append says e read) (record {
            ending = x.0;
            is_ending = x.1;
            rest = g.rest;
            is = g.is ∙ sym (rw (map-append, append_assoc, here) refl);
          })

      unsendable_exit : (error : PollError RE) → ¬ (poll.deadline <ℤ t.nanosecond) → (NotHttp r) → SaysOther not_http_text error → IsUnsendable meaning says (NotHttp r) (input_of r timeout max_polls (plain says (e ++ read))) (e ++ read) (Err error)
      unsendable_exit error before not_http says_so =
          let o = grown (plain says read) in
          let here = reading_here t.nanosecond [] in
          let unsent : has_request e ≡ false = none_sent (IsDeviceRequest r) e (no_request r not_http) s.requests in
          let none : k ≡ 0 = no_answers says e unsent in
          let is = s.is_open in
          let one = one_reading says e is.start unsent (is.so_far ∙ rw (none, is.first) refl) in
          record {
            done = cut_before;
            not_http = not_http;
            start = one.0;
            moment = t;
            events = ap (λ (l : List (PollCall RE)). l ++ read) one.1;
            in_time = rw (plain-append says e read) (λ l. not_late _ k _ poll t.nanosecond o here before (rw none l));
            answer = says_so;
          }

      module _ (q : HttpRequest) (a : Result HttpResponse RE) (before : ¬ (poll.deadline <ℤ t.nanosecond)) where
        abbrev turn : List (PollCall RE)
        turn = Reading t ∷ Sent q a ∷ []

        cut_after : IsTraceOf (input_of r timeout max_polls (plain says (e ++ turn))) (plain says (e ++ turn))
        cut_after =
            let o = grown (plain says turn) in
            let here = reading_here t.nanosecond (trace.Asked ∷ trace.Answered (class_of says a) ∷ []) in
            let there = answer_here t.nanosecond (class_of says a) [] in
            let x = an_ending _ k _ poll o in
            let g = goes _ k _ poll o x.0 x.1 x.2 (not_late _ k _ poll t.nanosecond o here before) in
            rw (plain-append says e turn) (record {
              ending = x.0;
              is_ending = x.1;
              rest = g.rest;
              is = g.is ∙ sym (rw (map-append, append_assoc, here, there) refl);
            })

        decided_exit : (reply : HttpResponse) (result : Result D (PollError RE)) → a ≡ Ok reply → IsDecision meaning (says reply) result → IsWhole meaning says (input_of r timeout max_polls (plain says (e ++ turn))) (e ++ turn) result
        decided_exit reply result is decision =
            let o = grown (plain says turn) in
            let here = reading_here t.nanosecond (trace.Asked ∷ trace.Answered (class_of says a) ∷ []) in
            let there = answer_here t.nanosecond (class_of says a) [] in
            let decides : class_of says a ≡ Deciding = ap (class_of says) is ∙ decision.0 in
            rw (plain-append says e turn) (record {
              done =
                  whole _ _ (Decided (suc k))
                  (reached _ k _ poll o, not_late _ k _ poll t.nanosecond o here before, there ∙ ap (λ (x : PollAnswer). Some x) decides)
                  (rw (plain-append says e turn) (decided_plan _ k _ poll t.nanosecond (class_of says a) o here there));
              to_the_end = refl;
              answer = (reply, last_reply-append None e turn ∙ ap (λ (x : Result HttpResponse RE). Some x) is, decision.1);
            })

        limit_exit : (result : Result D (PollError RE)) → class_of says a ≢ Deciding → poll.polls_left ≡ 1 → IsErrAnd result (SaysOther (codes "polling limit reached")) → IsWhole meaning says (input_of r timeout max_polls (plain says (e ++ turn))) (e ++ turn) result
        limit_exit result no_decision one_left says_so =
            let o = grown (plain says turn) in
            let here = reading_here t.nanosecond (trace.Asked ∷ trace.Answered (class_of says a) ∷ []) in
            let there = answer_here t.nanosecond (class_of says a) [] in
            let left = o.left in
            rw (plain-append says e turn) (record {
              done =
                  whole _ _ (Limited (suc k)) (
                    reached _ k _ poll o,
                    not_late _ k _ poll t.nanosecond o here before,
                    λ w. no_decision (let z : Some (class_of says a) ≡ Some Deciding = sym there ∙ w in cc),
                    (let z : suc k ≡ max_polls = omega (arith, left, one_left) in z),
                  )
                  (rw (plain-append says e turn) (decided_plan _ k _ poll t.nanosecond (class_of says a) o here there));
              to_the_end = refl;
              answer = says_so;
            })

        next : (d : Duration) (after : PollState) → IsDeviceRequest r q → class_of says a ≢ Deciding → poll.polls_left ≢ 1 → after ≡ state_after poll (class_of says a) → as_nanos d ≡ after.interval → SoFar (e ++ Reading t ∷ Sent q a ∷ Slept d ∷ []) after true
        next d after request no_decision more_left is is_length =
            let all : List (PollCall RE) = Reading t ∷ Sent q a ∷ Slept d ∷ [] in
            let o = grown (plain says all) in
            let here = reading_here t.nanosecond (trace.Asked ∷ trace.Answered (class_of says a) ∷ trace.Slept (as_nanos d) ∷ []) in
            let there = answer_here t.nanosecond (class_of says a) (trace.Slept (as_nanos d) ∷ []) in
            let n = open_next _ k _ poll t.nanosecond (class_of says a) o here there before no_decision more_left in
            let pa = plain-append says e all in
            let answers : length (answers_in (plain says (e ++ all))) ≡ suc k = rw (pa, answers_in-append (plain says e) (plain says all), length-append) (omega arith) in
            let readings : length (readings_in (plain says (e ++ all))) ≡ suc (suc k) = rw (pa, readings_in-append (plain says e) (plain says all), length-append, s.counts) (omega arith) in
            let lasts : (state_after poll (class_of says a)).interval ≡ as_nanos d = sym (is_length ∙ ap (λ (x : PollState). x.interval) is) in
            rw is (record {
              requests = EachRequest-append _ e all s.requests (request, tt);
              is_open = rw (answers, pa) (subst (λ (x : ℕ). IsOpen (input_of r timeout max_polls (plain says e ++ plain says all)) (suc k) (plain says e ++ trace.Reading t.nanosecond ∷ trace.Asked ∷ trace.Answered (class_of says a) ∷ trace.Slept x ∷ []) (state_after poll (class_of says a))) lasts n);
              counts = readings ∙ ap suc (sym answers);
              sent_is = has_request-sent e all refl;
            })

    -- the ways out of a round
    unsent_exit : (f : List (PollCall RE)) (error : PollError RE) → EndsUnsent meaning says (NotHttp r) poll sent f error → Ended (e ++ f) (Err error)
    unsent_exit f error x =
        rw x.events (elim x.cause [
          | inl (after, expired) ↦ inl (late_exit x.moment error after expired)
          | inr (inl (before, not_http, says_so)) ↦ inr (inr (unsendable_exit x.moment error before not_http says_so))
          | inr (inr memory) ↦ inr (inl (record {
            done = cut_before x.moment;
            answer = ap Err (memory ∙ ap token.Memory (sym (has_request-unsent e (Reading x.moment ∷ []) sent s.sent_is refl)));
          }))
        ])

    sent_exit : (f : List (PollCall RE)) (result : Result D (PollError RE)) → EndsSent meaning says poll f result → Ended (e ++ f) result
    sent_exit f result x =
        rw x.events (elim x.cause [
          | inl (reply, is, decision) ↦ inl (decided_exit x.moment x.request x.reply x.in_time reply result is decision)
          | inr (inl (no_decision, one_left, says_so)) ↦ inl (limit_exit x.moment x.request x.reply x.in_time result no_decision one_left says_so)
          | inr (inr memory) ↦ inr (inl (record {
            done = cut_after x.moment x.request x.reply x.in_time;
            answer = memory ∙ ap (λ (b : Bool). Err (token.Memory b)) (sym (has_request-sent e (Reading x.moment ∷ Sent x.request x.reply ∷ []) refl));
          }))
        ])

    pub last_round : (f : List (PollCall RE)) (result : Result D (PollError RE)) (after : PollState) → IsTurn meaning says (NotHttp r) poll sent f (Some result) after → Ended (e ++ f) result
    last_round f (Ok value) after x = sent_exit f (Ok value) x
    last_round f (Err error) after (inl x) = unsent_exit f error x
    last_round f (Err error) after (inr x) = sent_exit f (Err error) x

    pub next_round : (f : List (PollCall RE)) (after : PollState) → EachRequest (IsDeviceRequest r) f → IsTurn {D = D} meaning says (NotHttp r) poll sent f None after → SoFar (e ++ f) after true
    next_round f after requests x =
        let here : EachRequest (IsDeviceRequest r) (Reading x.moment ∷ Sent x.request x.reply ∷ Slept x.sleep ∷ []) = rw x.events at requests in
        rw x.events (next x.moment x.request x.reply x.in_time x.sleep after here.0 x.open_answer x.more x.after_is x.sleep_is)

-- the trace of every poll
module _ {D A RE : Type 0} (meaning : D → A) (reading : Data → JsonReading A) (r : DeviceToken) (timeout max_polls : ℕ) (e : List (PollCall RE)) (result : Result D (PollError RE)) where
  trace_of : Ended meaning (device_answer r.base.reply_rule reading) r timeout max_polls e result → IsTraceOf (input_of r timeout max_polls (plain (device_answer r.base.reply_rule reading) e)) (plain (device_answer r.base.reply_rule reading) e)
  trace_of (inl x) = x.done
  trace_of (inr (inl x)) = x.done
  trace_of (inr (inr x)) = x.done

  pub polls : r.interval ≤ max_nanos → EachRequest (IsDeviceRequest r) e → Ended meaning (device_answer r.base.reply_rule reading) r timeout max_polls e result → Polls meaning reading r timeout max_polls e result
  polls fits requests poll =
      record {
        requests = requests;
        poll = poll;
        paced = each_sleep_is_paced _ _ fits (trace_of poll);
        bounded = requests_are_bounded _ _ (trace_of poll);
      }
