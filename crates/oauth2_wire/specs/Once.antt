-- Sending one request: at most one step of the client, and the result.
use Rattle.std.specs.Prelude.{◌≡◌, ◌≢◌, ℕ, true, false, List, Result, Ok, Err, IfOk, MatchResult, string_bytes, codes}
use Rattle.http_uri.specs.Uri.{SpellsNone}
use Rattle.oauth2_wire.specs.Reply.{HttpResponse, ReplyView, Answer, ShowsAnswer, reply_of}
use Rattle.oauth2_wire.specs.Request.{HttpRequest, RequestView, view_of}
use Rattle.oauth2_wire.specs.declared.request.RequestFault.{RequestFault}
use Rattle.oauth2_wire.specs.declared.request.RequestFault.TheVariants as fault
use Rattle.oauth2_wire.specs.declared.error.RequestTokenError.{RequestTokenError}
use Rattle.oauth2_wire.specs.declared.error.RequestTokenError.TheVariants as token

-- the error text for an endpoint URL that is not an HTTP target
abbrev pub not_http_text : List ℕ
not_http_text = codes "failed to prepare request: endpoint URL is not an HTTP target"

-- the error is `Other` with this text
abbrev pub SaysOther : {T RE : Type 0} → List ℕ → RequestTokenError RE T → Type 0
SaysOther text (token.Other said) = string_bytes said ≡ text
SaysOther text error = ⊥

module _ {D A T E RE C : Type 0} (meaning : D → A) (error_meaning : T → E)
    (step : C → HttpRequest → Result HttpResponse RE → C → Type 0) (says : ReplyView → Answer A E) where
  -- if the request was prepared, the client makes exactly one step with it, from the state before
  -- to the state after, and the result is the error of the client or what the reply says; if it
  -- could not be prepared, the client is unchanged, and the result says why
  abbrev pub SendsOnce : C → Result HttpRequest RequestFault → Result D (RequestTokenError RE T) → C
      → Type 0
  SendsOnce before (Ok request) result after =
      (answer : Result HttpResponse RE) × step before request answer after
      × MatchResult answer
      (λ reply. ShowsAnswer meaning error_meaning (says (reply_of reply)) result)
      (λ error. result ≡ Err (token.Request error))
  SendsOnce before (Err kind) (Err (token.Memory sent)) after = (sent ≡ false) × (after ≡ before)
  SendsOnce before (Err fault.NotHttp) (Err (token.Other text)) after =
      (string_bytes text ≡ not_http_text) × (after ≡ before)
  SendsOnce before (Err kind) result after = ⊥

  -- a request for the endpoint URL with this text is prepared and sent once; preparing it fails
  -- only if the URL is not an HTTP target or memory runs out
  abbrev pub AsksOnce : (List ℕ → RequestView → Type 0) → List ℕ → C
      → Result D (RequestTokenError RE T) → C → Type 0
  AsksOnce IsRequest url before result after =
      (prepared : Result HttpRequest RequestFault)
      × IfOk prepared (λ request. IsRequest url (view_of request))
      × (prepared ≡ Err fault.NotHttp → SpellsNone url)
      × SendsOnce before prepared result after

-- a step of the client with this result: if memory ran out after sending, the reply of this very
-- step did not have status 200, so no success that is its status alone (RFC 7009, 2.2) is lost
abbrev pub KeepsSuccess : {D T RE C : Type 0}
    → (C → HttpRequest → Result HttpResponse RE → C → Type 0) → Result D (RequestTokenError RE T)
    → C → HttpRequest → Result HttpResponse RE → C → Type 0
KeepsSuccess step result before request answer after =
    step before request answer after
    × (result ≡ Err (token.Memory true) → IfOk answer (λ reply. (reply_of reply).status ≢ 200))
