-- Requests that are sent once.
use Rattle.std.proofs.Common.{◌≡◌, ◌≢◌, ◌⊎◌, ℕ, List, true, false, Ok, Err, ap, refl, sym, subst, inl, inr}
use Rattle.std.specs.Prelude.{Result}
use Rattle.oauth2_wire.specs.Reply.{HttpResponse, ReplyView, Answer, accepted, reply_of, ShowsAnswer}
use Rattle.oauth2_wire.specs.Request.{HttpRequest, RequestView, view_of}
use Rattle.oauth2_wire.specs.Once.{SendsOnce, AsksOnce, KeepsSuccess, SaysOther, not_http_text}
use Rattle.oauth2_wire.specs.declared.request.RequestFault.{RequestFault}
use Rattle.oauth2_wire.specs.declared.request.RequestFault.TheVariants as fault
use Rattle.oauth2_wire.specs.declared.error.RequestTokenError.{RequestTokenError}
use Rattle.oauth2_wire.specs.declared.error.RequestTokenError.TheVariants as token

module _ {D A T E RE C : Type 0} (meaning : D → A) (error_meaning : T → E) (step : C → HttpRequest → Result HttpResponse RE → C → Type 0) (says : ReplyView → Answer A E) (before after : C) where
  -- the reply of the one call, and what it says
  pub SendsOnce-replied : (prepared : Result HttpRequest RequestFault) (reply : HttpResponse) (result : Result D (RequestTokenError RE T))
      → SendsOnce reply_of (λ (error : T). error) step accepted before prepared (Ok reply) after
      → ShowsAnswer meaning error_meaning (says (reply_of reply)) result → SendsOnce meaning error_meaning step says before prepared result after
  SendsOnce-replied (Ok request) reply result (Ok came, did, same) shown =
      let view : reply_of reply ≡ reply_of came = cc in
      (Ok came, did, subst (λ view. ShowsAnswer meaning error_meaning (says view) result) view shown)
  SendsOnce-replied (Ok request) reply result (Err error, did, same) shown = cc
  SendsOnce-replied (Err kind) reply result called shown = absurd called

  -- the reply of the one call, and what it says; memory ran out only if it was no success
  pub SendsOnce-kept : (prepared : Result HttpRequest RequestFault) (reply : HttpResponse) (result : Result D (RequestTokenError RE T))
      → SendsOnce reply_of (λ (error : T). error) step accepted before prepared (Ok reply) after
      → ShowsAnswer meaning error_meaning (says (reply_of reply)) result → (result ≡ Err (token.Memory true) → (reply_of reply).status ≢ 200)
      → SendsOnce meaning error_meaning (KeepsSuccess step result) says before prepared result after
  SendsOnce-kept (Ok request) reply result (Ok came, did, same) shown kept =
      let view : reply_of reply ≡ reply_of came = cc in
      (Ok came, (did, λ lost. subst (λ view. view.status ≢ 200) view (kept lost)), subst (λ view. ShowsAnswer meaning error_meaning (says view) result) view shown)
  SendsOnce-kept (Ok request) reply result (Err error, did, same) shown kept = cc
  SendsOnce-kept (Err kind) reply result called shown kept = absurd called

  -- the error of the one call, whose step is one that is known
  pub SendsOnce-failed : (known : C → HttpRequest → Result HttpResponse RE → C → Type 0)
      → ((request : HttpRequest) (answer : Result HttpResponse RE) → known before request answer after → step before request answer after)
      → (prepared : Result HttpRequest RequestFault) (error : RequestTokenError RE T)
      → SendsOnce reply_of (λ (error : T). error) known accepted before prepared (Err error) after
      → SendsOnce meaning error_meaning step says before prepared (Err error) after
  SendsOnce-failed known is_step (Ok request) (token.Memory sent) (Ok came, did, shown) = (Ok came, is_step request (Ok came) did, shown)
  SendsOnce-failed known is_step (Ok request) (token.ServerResponse response) (Ok came, did, shown) = cc
  SendsOnce-failed known is_step (Ok request) (token.Parse read body) (Ok came, did, shown) = cc
  SendsOnce-failed known is_step (Ok request) (token.Other text) (Ok came, did, shown) = cc
  SendsOnce-failed known is_step (Ok request) (token.Request cause) (Ok came, did, shown) = absurd shown
  SendsOnce-failed known is_step (Ok request) error (Err cause, did, is) =
      let same : error ≡ token.Request cause = cc in (Err cause, is_step request (Err cause) did, ap (λ e. Err e) same)
  SendsOnce-failed known is_step (Err kind) (token.Memory sent) called = called
  SendsOnce-failed known is_step (Err fault.NotHttp) (token.Other text) called = called
  SendsOnce-failed known is_step (Err fault.Memory) (token.Other text) called = absurd called
  SendsOnce-failed known is_step (Err kind) (token.ServerResponse response) called = absurd called
  SendsOnce-failed known is_step (Err kind) (token.Parse read body) called = absurd called
  SendsOnce-failed known is_step (Err kind) (token.Request cause) called = absurd called

  -- a request that could not be prepared
  pub SendsOnce-unprepared : (kind : RequestFault) (error : RequestTokenError RE T) → after ≡ before
      → ((kind ≡ fault.NotHttp) × SaysOther not_http_text error) ⊎ (error ≡ token.Memory false)
      → SendsOnce meaning error_meaning step says before (Err kind) (Err error) after
  SendsOnce-unprepared fault.NotHttp (token.Other text) stays (inl (is, said)) = (said, stays)
  SendsOnce-unprepared fault.Memory error stays (inl (is, said)) = cc
  SendsOnce-unprepared fault.NotHttp (token.Memory sent) stays (inl (is, said)) = absurd said
  SendsOnce-unprepared fault.NotHttp (token.ServerResponse response) stays (inl (is, said)) = absurd said
  SendsOnce-unprepared fault.NotHttp (token.Parse read body) stays (inl (is, said)) = absurd said
  SendsOnce-unprepared fault.NotHttp (token.Request cause) stays (inl (is, said)) = absurd said
  SendsOnce-unprepared kind error stays (inr is) =
      subst (λ e. SendsOnce meaning error_meaning step says before (Err kind) (Err e) after) (sym is) (refl, stays)

-- a result that is a value: the client was called, once, and a reply came that says it
module _ {D A T E RE C : Type 0} (meaning : D → A) (error_meaning : T → E) (step : C → HttpRequest → Result HttpResponse RE → C → Type 0) (says : ReplyView → Answer A E) (IsRequest : List ℕ → RequestView → Type 0) (url : List ℕ) (before after : C) where
  pub AsksOnce-accepted : (value : D) → AsksOnce meaning error_meaning step says IsRequest url before (Ok value) after
      → (request : HttpRequest) × IsRequest url (view_of request) × (reply : HttpResponse) × step before request (Ok reply) after
      × (says (reply_of reply) ≡ accepted (meaning value))
  AsksOnce-accepted value (Ok request, is, target, (Ok reply, did, shown)) = (request, is, reply, did, shown)
  AsksOnce-accepted value (Ok request, is, target, (Err cause, did, failed)) = cc
  AsksOnce-accepted value (Err kind, is, target, unsent) = absurd unsent
