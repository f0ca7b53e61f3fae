-- How the push of a login ends.
use Rattle.std.proofs.Common.{◌≡◌, ◌⊎◌, ℕ, List, Option, Some, None, Ok, Err, refl, subst, sym, inl, inr}
use Rattle.std.specs.Prelude.{◌↔◌, Result, IfErr}
use Rattle.serde_json.specs.Data.{Data}
use Rattle.url.specs.Parts.{Parts, serialize}
use Rattle.oauth2_urls.specs.Addressed.{Addressed}
use Rattle.oauth2_json.specs.Reading.{Reading}
use Rattle.oauth2_wire.specs.Once.{AsksOnce}
use Rattle.oauth2_wire.specs.Reply.{HttpResponse}
use Rattle.oauth2_wire.specs.Request.{HttpRequest, IsRequestOf}
use Rattle.oauth2_wire.specs.declared.error.RequestTokenError.{RequestTokenError}
use Rattle.oauth2_pushed_requests.specs.Parameters.{added_pairs, push_fault}
use Rattle.oauth2_pushed_requests.specs.Pushed.{PushedRequest, PushingClientView, pushed_answer_of, pushed_configuration}
use Rattle.oauth2_pushed_requests.specs.Response.{PushedAuthorization}
use Rattle.oauth2_pushed_requests.specs.declared.push_fault.PushFault.{PushFault}
use Rattle.oauth2_pushed_requests.specs.declared.push_fault.PushFault.TheVariants.{Memory}
use Rattle.url.specs.declared.error.ParseError.{ParseError}
use Rattle.oauth2_pushed_login.specs.PushedUrl.{EndsPush, IsUrlOf, PushingLogin, pushing_client}
use Rattle.oauth2_pushed_login.specs.declared.push_login_error.PushLoginError.{PushLoginError}

same_url : (o : Option Addressed) (a b : Addressed) → o ≡ Some a → o ≡ Some b → b ≡ a
same_url o a b is again = cc

module _ {T E RE C : Type 0} (error_meaning : T → E) (error_reading : Data → Reading E) (step : C → HttpRequest → Result HttpResponse RE → C → Type 0) (login : PushingLogin) (secret : Option (List ℕ)) (url : Parts) (before after : C) (result : Result Parts (PushLoginError RE T)) where
  -- a push that was sent, and what follows from its outcome
  pub pushed_all : (r : PushedRequest) → r.client ≡ pushing_client login secret
      → (auth_url : Addressed) × (login.client.auth_url ≡ Some auth_url) × (added_pairs auth_url.url url ≡ Some r.pairs) × (push_fault login.client.client_id login.endpoint auth_url.url (Some r.pairs) ≡ None)
      → (outcome : Result PushedAuthorization (RequestTokenError RE T))
      → AsksOnce (λ (pushed : PushedAuthorization). pushed) error_meaning step (pushed_answer_of r.client.reply_rule error_reading) (IsRequestOf (pushed_configuration r)) (serialize r.client.endpoint) before outcome after
      → (auth_url : Addressed) × (login.client.auth_url ≡ Some auth_url) × IsUrlOf login.client.client_id auth_url.url outcome result
      → EndsPush error_meaning error_reading step login secret url before result after
  pushed_all r is (a, there, added, fine) outcome asked (b, again, says) = (
    a,
    there,
    inl (
      r.pairs,
      added,
      fine,
      outcome,
      subst (λ (k : PushingClientView). AsksOnce (λ (pushed : PushedAuthorization). pushed) error_meaning step (pushed_answer_of k.reply_rule error_reading) (IsRequestOf (pushed_configuration (record { client = k; pairs = r.pairs }))) (serialize k.endpoint) before outcome after) is asked,
      subst (λ (x : Addressed). IsUrlOf login.client.client_id x.url outcome result) (same_url login.client.auth_url a b there again) says,
    ),
  )

-- a push that was refused, as the caller sees the client
pub refused : {R : Type 0} (result : Result R PushFault) (seen login : PushingLogin) → seen ≡ login → (a : Addressed) → seen.client.auth_url ≡ Some a → (k : PushingClientView) → k.client_id ≡ seen.client.client_id → k.endpoint ≡ seen.endpoint → (url : Parts)
    → IfErr result (λ e. (e ≡ Memory) ⊎ (push_fault k.client_id k.endpoint a.url (added_pairs a.url url) ≡ Some e))
    → IfErr result (λ e. (x : Addressed) × (login.client.auth_url ≡ Some x) × ((e ≡ Memory) ⊎ (push_fault login.client.client_id login.endpoint x.url (added_pairs x.url url) ≡ Some e)))
refused (Ok r) seen login is a there k whose place url why = tt
refused (Err e) seen login is a there k whose place url why =
    let of_id = subst (λ (i : List ℕ). (e ≡ Memory) ⊎ (push_fault i k.endpoint a.url (added_pairs a.url url) ≡ Some e)) whose why in
    let of_both = subst (λ (p : Parts). (e ≡ Memory) ⊎ (push_fault seen.client.client_id p a.url (added_pairs a.url url) ≡ Some e)) place of_id in
    subst (λ (l : PushingLogin). (x : Addressed) × (l.client.auth_url ≡ Some x) × ((e ≡ Memory) ⊎ (push_fault l.client.client_id l.endpoint x.url (added_pairs x.url url) ≡ Some e))) is
    (a, there, of_both)

-- what follows from an outcome, as the caller sees the client
pub follows : {RE T : Type 0} (seen login : PushingLogin) → seen ≡ login → (a : Addressed) → seen.client.auth_url ≡ Some a → (id : List ℕ) → id ≡ seen.client.client_id
    → (outcome known : Result PushedAuthorization (RequestTokenError RE T)) → outcome ≡ known → (result : Result Parts (PushLoginError RE T)) → IsUrlOf id a.url known result
    → (x : Addressed) × (login.client.auth_url ≡ Some x) × IsUrlOf login.client.client_id x.url outcome result
follows {RE = RE} {T = T} seen login is a there id same outcome known told result says =
    let of_outcome = subst (λ (o : Result PushedAuthorization (RequestTokenError RE T)). IsUrlOf id a.url o result) (sym told) says in
    subst (λ (l : PushingLogin). (x : Addressed) × (l.client.auth_url ≡ Some x) × IsUrlOf l.client.client_id x.url outcome result) is
    (a, there, subst (λ (i : List ℕ). IsUrlOf i a.url outcome result) same of_outcome)

same_error : {R : Type 0} (result : Result R ParseError) (e f : ParseError) → result ≡ Err e → result ≡ Err f → e ≡ f
same_error result e f is also = cc

as_error : {R : Type 0} (result : Result R ParseError) (e f : ParseError) → result ≡ Err e → e ≡ f → result ≡ Err f
as_error result e f is same = cc

-- when the error is this one
pub is_error : {R : Type 0} (result : Result R ParseError) (e f : ParseError) (long : Type 0) → result ≡ Err e → (result ≡ Err f ↔ long) → e ≡ f ↔ long
is_error result e f long is both = ((λ h. both.0 (as_error result e f is h)), (λ l. same_error result e f is (both.1 l)))
