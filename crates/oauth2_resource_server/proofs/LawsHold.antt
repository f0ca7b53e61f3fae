-- The laws of a question, from those of its calls.
use Rattle.std.proofs.Common.{◌≡◌, ℕ, inl, inr, List, Option, Some, None, Result, Ok, Err, refl, sym, subst}
use Rattle.std.specs.Prelude.{ℤ, ⊤, Bool, true, MatchOption}
use Rattle.std.specs.declared.io.Error as Io
use Rattle.oauth2_wire.specs.Once.{AsksOnce, SendsOnce}
use Rattle.oauth2_wire.specs.Reply.{HttpResponse, ReplyView, Answer}
use Rattle.oauth2_wire.specs.Request.{HttpRequest, RequestView}
use Rattle.oauth2_wire.specs.declared.content_type.ReplyRule.{ReplyRule}
use Rattle.oauth2_wire.specs.declared.error.RequestTokenError.{RequestTokenError}
use Rattle.oauth2_wire.specs.declared.error.RequestTokenError.TheVariants as token
use Rattle.oauth2_wire.specs.declared.request.RequestFault.{RequestFault}
use Rattle.oauth2_wire.specs.declared.request.RequestFault.TheVariants as fault
use Rattle.oauth2_http1.specs.Origin.{Place}
use Rattle.oauth2_http1_connections.specs.Law.{EachHasHistory}
use Rattle.oauth2_http1_connections.specs.declared.client.KeepAliveClient.{KeepAliveClient}
use Rattle.oauth2_http1_connections.specs.declared.error.KeepAliveError.{KeepAliveError}
use Rattle.oauth2_http1_connections.proofs.Histories.{keeps_histories}
use Rattle.oauth2_introspection_cache.specs.Cache.{Cache, remembered, active, inactive, failed, good_answer, Introspects, FailsWith, CacheCalls}
use Rattle.oauth2_resource_server.specs.Questions.{Asks, StepsOver, is_unanswered}
use Rattle.oauth2_resource_server.specs.Laws.{IsAskedAbout, AsksWhereNoAnswerIsGood, KeepsEachHistory}

module _ {D T E C : Type 0} (asks : ReplyRule → (List ℕ → RequestView → Type 0) → List ℕ → C → Result D (RequestTokenError (KeepAliveError E) T) → C → Type 0)
    (is_active : D → Bool) (expires : D → Option ℤ) where
  -- a call that nothing is known for, or one that is known
  abbrev Says : Option D → Cache D → List ℕ → C → Result Bool (RequestTokenError (KeepAliveError E) T) → C → Type 0
  Says known cache token before result after = MatchOption known (IsAskedAbout asks is_active expires cache token before) (λ answer. (result ≡ Ok true) × (after ≡ before))

  failed_asks : (cache : Cache D) (token : List ℕ) (before : C) (error : RequestTokenError (KeepAliveError E) T) (after : C)
      → FailsWith asks is_active expires cache token before error after → IsAskedAbout asks is_active expires cache token before
  failed_asks cache token before error after (inl asked) = (Err error, after, asked)
  failed_asks cache token before error after (inr (is, (reply, holds, asked))) = (Ok reply, after, asked)

  call_says : (cache next : Cache D) (token : List ℕ) (now : ℤ) (before after : C) (result : Result Bool (RequestTokenError (KeepAliveError E) T))
      → CacheCalls asks is_active expires cache token now before result after next → Says (good_answer expires cache token now) cache token before result after
  call_says cache next token now before after result (remembered answer, (good, is, same), kept) =
      subst (λ known. Says known cache token before result after) (sym good) (is, same)
  call_says cache next token now before after result (active answer, (none, is, (holds, asked)), kept) =
      subst (λ known. Says known cache token before result after) (sym none) (Ok answer, after, asked)
  call_says cache next token now before after result (inactive, (none, is, (answer, fails_to, asked)), kept) =
      subst (λ known. Says known cache token before result after) (sym none) (Ok answer, after, asked)
  call_says cache next token now before after result (failed, (none, (error, is, fails)), kept) =
      subst (λ known. Says known cache token before result after) (sym none) (failed_asks cache token before error after fails)

  -- a call without a reply had no good answer
  lost_asks : (known : Option D) (cache : Cache D) (token : List ℕ) (before middle after : C) (lost result : Result Bool (RequestTokenError (KeepAliveError E) T))
      → is_unanswered lost ≡ true → Says known cache token before lost middle → Says known cache token before result after
  lost_asks None cache token before middle after lost result unanswered says = says
  lost_asks (Some answer) cache token before middle after lost result unanswered says =
      absurd (never (subst (λ r. is_unanswered r ≡ true) says.0 unanswered))
    where
      never : is_unanswered {A = Bool} {E = E} {T = T} (Ok true) ≡ true → ⊥
      never e = cc

  pub asks_where_unknown : AsksWhereNoAnswerIsGood asks is_active expires
  asks_where_unknown cache next token now before after result (inl (answered, call)) = call_says cache next token now before after result call
  asks_where_unknown cache next token now before after result (inr (lost, middle, left, unanswered, first, second)) =
      lost_asks (good_answer expires cache token now) cache token before middle after lost result unanswered
      (call_says cache left token now before middle lost first)

module _ {C S E D A T R : Type 0} (opens : C → Place → Result S E → C → Type 0) (looks : S → Bool → S → Type 0) (contents remaining : S → Option (List ℕ))
    (reads writes : S → Result ℕ Io.Error → S → Type 0) (flushes : S → Result ⊤ Io.Error → S → Type 0) (meaning : D → A) (error_meaning : T → R)
    (says : ReplyRule → ReplyView → Answer A R) (is_active : D → Bool) (expires : D → Option ℤ) where
  abbrev Histories : KeepAliveClient C S → Type 0
  Histories = EachHasHistory opens looks contents remaining reads writes flushes

  abbrev Step : KeepAliveClient C S → HttpRequest → Result HttpResponse (KeepAliveError E) → KeepAliveClient C S → Type 0
  Step = StepsOver opens looks contents remaining reads writes flushes

  abbrev Requests : ReplyRule → (List ℕ → RequestView → Type 0) → List ℕ → KeepAliveClient C S → Result D (RequestTokenError (KeepAliveError E) T) → KeepAliveClient C S → Type 0
  Requests rule = AsksOnce meaning error_meaning Step (says rule)

  sent_keeps : (rule : ReplyRule) (before after : KeepAliveClient C S) (prepared : Result HttpRequest RequestFault) (result : Result D (RequestTokenError (KeepAliveError E) T))
      → Histories before → SendsOnce meaning error_meaning Step (says rule) before prepared result after → Histories after
  sent_keeps rule before after (Ok request) result each (answer, (same, calls), told) =
      (keeps_histories opens looks contents remaining reads writes flushes before request answer after each calls).kept
  sent_keeps rule before after (Err fault.NotHttp) (Err (token.Memory sent)) each (unsent, same) = subst Histories (sym same) each
  sent_keeps rule before after (Err fault.Memory) (Err (token.Memory sent)) each (unsent, same) = subst Histories (sym same) each
  sent_keeps rule before after (Err fault.NotHttp) (Err (token.Other text)) each (is, same) = subst Histories (sym same) each
  sent_keeps rule before after (Err fault.Memory) (Err (token.Other text)) each sends = absurd sends
  sent_keeps rule before after (Err fault.NotHttp) (Ok answer) each sends = absurd sends
  sent_keeps rule before after (Err fault.Memory) (Ok answer) each sends = absurd sends
  sent_keeps rule before after (Err fault.NotHttp) (Err (token.ServerResponse error)) each sends = absurd sends
  sent_keeps rule before after (Err fault.Memory) (Err (token.ServerResponse error)) each sends = absurd sends
  sent_keeps rule before after (Err fault.NotHttp) (Err (token.Request error)) each sends = absurd sends
  sent_keeps rule before after (Err fault.Memory) (Err (token.Request error)) each sends = absurd sends
  sent_keeps rule before after (Err fault.NotHttp) (Err (token.Parse error body)) each sends = absurd sends
  sent_keeps rule before after (Err fault.Memory) (Err (token.Parse error body)) each sends = absurd sends

  asked_keeps : (cache : Cache D) (token : List ℕ) (before after : KeepAliveClient C S) (result : Result D (RequestTokenError (KeepAliveError E) T))
      → Histories before → Introspects Requests cache token before result after → Histories after
  asked_keeps cache token before after result each (endpoint, is, (prepared, request, names, sends)) =
      sent_keeps cache.client.reply_rule before after prepared result each sends

  failed_keeps : (cache : Cache D) (token : List ℕ) (before after : KeepAliveClient C S) (error : RequestTokenError (KeepAliveError E) T)
      → Histories before → FailsWith Requests is_active expires cache token before error after → Histories after
  failed_keeps cache token before after error each (inl asked) = asked_keeps cache token before after (Err error) each asked
  failed_keeps cache token before after error each (inr (is, (reply, holds, asked))) = asked_keeps cache token before after (Ok reply) each asked

  call_keeps : (cache next : Cache D) (token : List ℕ) (now : ℤ) (before after : KeepAliveClient C S) (result : Result Bool (RequestTokenError (KeepAliveError E) T))
      → Histories before → CacheCalls Requests is_active expires cache token now before result after next → Histories after
  call_keeps cache next token now before after result each (remembered answer, (good, is, same), kept) = subst Histories (sym same) each
  call_keeps cache next token now before after result each (active answer, (none, is, (holds, asked)), kept) = asked_keeps cache token before after (Ok answer) each asked
  call_keeps cache next token now before after result each (inactive, (none, is, (answer, fails_to, asked)), kept) = asked_keeps cache token before after (Ok answer) each asked
  call_keeps cache next token now before after result each (failed, (none, (error, is, fails)), kept) = failed_keeps cache token before after error each fails

  pub keeps_each_history : KeepsEachHistory opens looks contents remaining reads writes flushes meaning error_meaning says is_active expires
  keeps_each_history cache next token now before after result each (inl (answered, call)) = call_keeps cache next token now before after result each call
  keeps_each_history cache next token now before after result each (inr (lost, middle, left, unanswered, first, second)) =
      call_keeps left next token now middle after result (call_keeps cache left token now before middle lost each first) second
