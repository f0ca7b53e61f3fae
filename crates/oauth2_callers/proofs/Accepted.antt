-- An answer that was accepted was asked for once.
use Rattle.std.proofs.Common.{◌≡◌, ℕ, List, Option, Some, None, Ok, Err, refl, ap, subst}
use Rattle.std.specs.Prelude.{Result, IfOk, IfSome, IfNone, option_map}
use Rattle.oauth2.specs.NewRequest.{new_code_request}
use Rattle.oauth2.specs.Settings.{Settings}
use Rattle.serde_json.specs.Data.{Data}
use Rattle.url.specs.Parts.{serialize}
use Rattle.oauth2_json.specs.Reading.{Reading}
use Rattle.oauth2_requests.specs.Code.{CodeRequest, code_configuration}
use Rattle.oauth2_urls.specs.Addressed.{Addressed}
use Rattle.oauth2_wire.specs.Reply.{HttpResponse, ReplyView, Answer, accepted, answer_of, reply_of}
use Rattle.oauth2_wire.specs.Once.{AsksOnce}
use Rattle.oauth2_wire.proofs.OnceLemmas.{AsksOnce-accepted}
use Rattle.oauth2_wire.specs.Request.{HttpRequest, RequestView, IsRequestOf, view_of}
use Rattle.oauth2_wire.specs.declared.error.RequestTokenError.{RequestTokenError}
use Rattle.oauth2_wire.specs.Expected.{Configuration}
use Rattle.oauth2_redirect.specs.End.{ExchangesCode, login_exchange}
use Rattle.oauth2_redirect.specs.Login.{LoginView}
use Rattle.oauth2_callers.specs.Login.{IsAnsweredBy}

module _ {D A T E RE C : Type 0} (meaning : D → A) (error_meaning : T → E) (step : C → HttpRequest → Result HttpResponse RE → C → Type 0) (says : ReplyView → Answer A E) (IsRequest : List ℕ → RequestView → Type 0) (url : List ℕ) (before after : C) where
  pub IfOk-from_AsksOnce : (Wanted : HttpRequest → Type 0) → ((r : HttpRequest) → IsRequest url (view_of r) → Wanted r) → (result : Result D (RequestTokenError RE T))
      → AsksOnce meaning error_meaning step says IsRequest url before result after
      → IfOk result (λ value. (request : HttpRequest) × Wanted request × (reply : HttpResponse) × step before request (Ok reply) after × (says (reply_of reply) ≡ accepted (meaning value)))
  IfOk-from_AsksOnce Wanted weaker (Ok value) asked =
      let sent = AsksOnce-accepted meaning error_meaning step says IsRequest url before after value asked in
      (sent.0, weaker sent.0 sent.1, sent.2, sent.3, sent.4)
  IfOk-from_AsksOnce Wanted weaker (Err error) asked = tt

-- the request of an equal configuration
pub IsRequestOf-equal : {R : Type 0} (configuration : R → Configuration) (a b : R) (url : List ℕ) (v : RequestView) → a ≡ b → IsRequestOf (configuration a) url v → IsRequestOf (configuration b) url v
IsRequestOf-equal configuration a b url v a_is_b is = subst (λ r. IsRequestOf (configuration r) url v) a_is_b is

-- the exchange of a code that a client started reads its reply by the client's rule
pub rule-started : (client : Settings) (code : List ℕ) (url : Option Addressed) (started : CodeRequest)
    → IfSome url (λ u. started ≡ new_code_request client u code) → IfNone url ⊥ → started.base.reply_rule ≡ client.reply_rule
rule-started client code (Some u) started there missing = ap (λ (r : CodeRequest). r.base.reply_rule) there
rule-started client code None started there missing = absurd missing

module _ {D A T E RE C : Type 0} {meaning : D → A} {error_meaning : T → E} (reading : Data → Reading A) (error_reading : Data → Reading E) (step : C → HttpRequest → Result HttpResponse RE → C → Type 0) (client : Settings) (login : LoginView) (code : List ℕ) {before after : C} where
  -- the exchange of a login's code that gave a token was answered with it
  pub IsAnsweredBy-from_ExchangesCode : (result : Result D (RequestTokenError RE T))
      → ExchangesCode meaning error_meaning reading error_reading step client login code before result after
      → IfOk result (λ token. IsAnsweredBy reading error_reading step client login code before (meaning token) after)
  IsAnsweredBy-from_ExchangesCode (Ok token) (endpoint, there, asked) =
      let sent =
      AsksOnce-accepted meaning error_meaning step (answer_of client.reply_rule reading error_reading)
      (IsRequestOf (code_configuration (login_exchange client endpoint login code))) (serialize endpoint.url) before after token asked in
      (sent.0, (endpoint, there, sent.1), sent.2, sent.3, sent.4)
  IsAnsweredBy-from_ExchangesCode (Err error) asked = tt

-- what holds of each value that a result may be, holds of the result
pub IfOk-from_each : {V E : Type 0} (P : V → Type 0) (r : Result V E) → ((v : V) → r ≡ Ok v → P v) → IfOk r P
IfOk-from_each P (Ok v) each = each v refl
IfOk-from_each P (Err e) each = tt

-- a text that is seen as itself
pub seen_as_itself : {A : Type 0} (o : Option A) → option_map (λ a. a) o ≡ o
seen_as_itself None = refl
seen_as_itself (Some a) = refl
