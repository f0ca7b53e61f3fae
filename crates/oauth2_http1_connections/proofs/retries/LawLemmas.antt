-- What follows for the requests that are sent.
use Rattle.std.proofs.Common.{◌≡◌, ℕ, Bool, true, false, List, Option, inl, inr}
use Rattle.std.specs.Prelude.{◌||◌, ◌&&◌, ⊤, IsTrue, IsErrAnd, Result, Ok, Err}
use Rattle.std.specs.declared.io.Error as Io
use Rattle.std.specs.declared.time.Duration.{Duration}
use Rattle.std.proofs.lemmas.List.Elements.{All-weaker}
use Rattle.http.specs.Request.{head_of}
use Rattle.http.specs.Response.{head_of as reply_head}
use Rattle.oauth2_http1.specs.declared.error.Http1Error.TheVariants as http1
use Rattle.oauth2_http1.specs.Origin.{Place}
use Rattle.oauth2_wire.specs.Reply.{HttpResponse}
use Rattle.oauth2_wire.specs.Request.{HttpRequest, view_of}
use Rattle.oauth2_wire.proofs.CopyLemmas.{IsRequestOf-copy}
use Rattle.oauth2_retry_after.specs.RetryAfter.{is_busy}
use Rattle.oauth2_http1_connections.specs.retries.Answers.{is_get, is_repeatable}
use Rattle.oauth2_http1_connections.specs.retries.Laws.{EachCopyIsTheRequest, EachOtherRequestIsSentOnce, EachUnsentErrorOpenedNothing}

not_both : (a b : Bool) → a ≡ false → IsTrue (a && b) → ⊥
not_both true b e h = absurd (cc)
not_both false b e h = absurd (cc)

other_one : (a b : Bool) → a ≡ false → IsTrue (a || b) → IsTrue b
other_one true b e h = absurd (cc)
other_one false b e h = h

says_unsent : {E : Type 0} (unsent : E → Bool) (method : List ℕ) (answer : Result HttpResponse E) → is_get method ≡ false → IsTrue (is_repeatable unsent method answer) → IsErrAnd answer (λ error. IsTrue (unsent error))
says_unsent unsent method (Ok reply) other again = not_both (is_get method) (is_busy (reply_head reply).status) other again
says_unsent unsent method (Err error) other again = other_one (is_get method) (unsent error) other again

pub other_is_sent_once : {C E : Type 0} (step : C → HttpRequest → Result HttpResponse E → C → Type 0) (sleeps : C → Duration → C → Type 0) (unsent : E → Bool) → EachOtherRequestIsSentOnce step sleeps unsent
other_is_sent_once step sleeps unsent limits before after request result is_cut_short other all =
    All-weaker (λ answer. IsTrue (is_repeatable unsent (head_of request).method answer)) (λ answer. IsErrAnd answer (λ error. IsTrue (unsent error)))
    (λ answer again. says_unsent unsent (head_of request).method answer other again) all.earlier all.each

pub copy_is_the_request : EachCopyIsTheRequest
copy_is_the_request configuration text request sent copy is = IsRequestOf-copy configuration text (view_of request) (view_of sent) copy is

pub opened_nothing : {C S E : Type 0} (opens : C → Place → Result S E → C → Type 0) (contents remaining : S → Option (List ℕ)) (reads writes : S → Result ℕ Io.Error → S → Type 0) (flushes : S → Result ⊤ Io.Error → S → Type 0)
    → EachUnsentErrorOpenedNothing opens contents remaining reads writes flushes
opened_nothing opens contents remaining reads writes flushes before after request (http1.Request fault) is unsent = inl is.0
opened_nothing opens contents remaining reads writes flushes before after request (http1.Connect error) is unsent = inr (error, is.1)
opened_nothing opens contents remaining reads writes flushes before after request (http1.Write error) is unsent = absurd (cc)
opened_nothing opens contents remaining reads writes flushes before after request (http1.Reply fault) is unsent = absurd (cc)
