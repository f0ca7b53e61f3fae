-- Laws about the requests that are sent.
use Rattle.std.specs.Prelude.{◌≡◌, ℕ, ⊤, ◌⊎◌, Bool, true, false, IsTrue, IsErrAnd, All, List, Vec, Option, Result, Err}
use Rattle.std.specs.declared.alloc.Global.{Global}
use Rattle.std.specs.declared.io.Error as Io
use Rattle.std.specs.declared.time.Duration.{Duration}
use Rattle.http.specs.declared.request.Request.{Request}
use Rattle.http.specs.Request.{head_of}
use Rattle.oauth2_http1.specs.declared.client.Http1Client.{Http1Client}
use Rattle.oauth2_http1.specs.declared.error.Http1Error.{Http1Error}
use Rattle.oauth2_http1.specs.Client.{Exchanges, Opens}
use Rattle.oauth2_http1.specs.Origin.{Place}
use Rattle.oauth2_wire.specs.Expected.{Configuration}
use Rattle.oauth2_wire.specs.Reply.{HttpResponse}
use Rattle.oauth2_wire.specs.Request.{HttpRequest, IsCopyOf, IsRequestOf, view_of}
use Rattle.oauth2_http1_connections.specs.retries.Answers.{is_get}
use Rattle.oauth2_http1_connections.specs.retries.Limits.{Limits}
use Rattle.oauth2_http1_connections.specs.retries.Repeats.{Repeats}
use Rattle.oauth2_http1_connections.specs.retries.Unsent.{is_unsent_http1}

-- a request that is not a GET, such as a token request, is sent at most once: each call before the
-- last ended in an error that says that nothing was sent
module _ {C E : Type 0} (step : C → HttpRequest → Result HttpResponse E → C → Type 0) (sleeps : C → Duration → C → Type 0) (unsent : E → Bool) where
  abbrev pub EachOtherRequestIsSentOnce : Type 0
  EachOtherRequestIsSentOnce =
      (limits : Limits) (before after : C) (request : HttpRequest) (result : Result HttpResponse E) (is_cut_short : Bool)
      → is_get (head_of request).method ≡ false
      → (all : Repeats step sleeps unsent limits before request result after is_cut_short)
      → All (λ answer. IsErrAnd answer (λ error. IsTrue (unsent error))) all.earlier

-- a copy of a request is the request of every configuration that the original is the request of
abbrev pub EachCopyIsTheRequest : Type 0
EachCopyIsTheRequest =
    (configuration : Configuration) (text : List ℕ) (request sent : HttpRequest)
    → IsCopyOf (view_of request) (view_of sent) → IsRequestOf configuration text (view_of request)
    → IsRequestOf configuration text (view_of sent)

-- if an error of the HTTP/1.1 client says that nothing was sent, the connector was not called, or
-- it opened no connection
module _ {C S E : Type 0} (opens : C → Place → Result S E → C → Type 0) (contents remaining : S → Option (List ℕ))
    (reads writes : S → Result ℕ Io.Error → S → Type 0) (flushes : S → Result ⊤ Io.Error → S → Type 0) where
  abbrev pub OpensNone : Http1Client C → Request (Vec ℕ Global) → Http1Client C → Type 0
  OpensNone before request after =
      (after ≡ before)
      ⊎ ((error : E) × Opens opens contents remaining reads writes flushes before.connect request (Err error) after.connect)

  abbrev pub EachUnsentErrorOpenedNothing : Type 0
  EachUnsentErrorOpenedNothing =
      (before after : Http1Client C) (request : Request (Vec ℕ Global)) (error : Http1Error E)
      → Exchanges opens contents remaining reads writes flushes before request (Err error) after
      → is_unsent_http1 error ≡ true → OpensNone before request after
