-- A revocation that was done.
use Rattle.std.proofs.Common.{◌≡◌, ℕ, List, Bool, true, false, Option, Some, None, Ok, Err, refl, subst}
use Rattle.std.specs.Prelude.{◌==◌, Result, Decides, IsSome, IfSome, codes, length, if◌then◌else◌}
use Rattle.std.proofs.lemmas.Bool.Decides.{Decides-eqb}
use Rattle.std.proofs.lemmas.Slice.Eq.{bytes_eq-Decides}
use Rattle.std.proofs.Common.{bytes_eq}
use Rattle.serde_json.specs.Data.{Data}
use Rattle.url.specs.Parts.{serialize}
use Rattle.oauth2_json.specs.Body.{body_reading}
use Rattle.oauth2_json.specs.Reading.{Reading}
use Rattle.oauth2_urls.specs.Addressed.{Addressed}
use Rattle.oauth2_wire.specs.Once.{AsksOnce}
use Rattle.oauth2_wire.proofs.OnceLemmas.{AsksOnce-accepted}
use Rattle.oauth2_wire.specs.Reply.{HttpResponse, ReplyView, Answer, accepted, refused, other, failure_answer, read_answer, reply_of, status_answer_of}
use Rattle.oauth2_wire.specs.Request.{HttpRequest, IsRequestOf, view_of}
use Rattle.oauth2_wire.specs.declared.error.RequestTokenError.{RequestTokenError}
use Rattle.oauth2_requests.specs.TokenRevocation.{IsHttps, TokenRevocation, revocation_configuration}
use Rattle.oauth2.specs.NewRequest.{new_revocation_request}
use Rattle.oauth2.specs.Settings.{Settings}

stable : {P : Type 0} (b : Bool) → Decides b P → (¬ P → ⊥) → P
stable true decides not_not = decides.0 refl
stable false decides not_not = absurd (not_not (λ p. let no : false ≡ true = decides.1 p in cc))

module _ {E : Type 0} (error_reading : Data → Reading E) where
  not_failed : (b : Bool) (reading : Reading E) (body : List ℕ) → (if b then other (codes "server returned empty error response") else read_answer {A = Unit {0}} refused body reading) ≡ accepted tt → ⊥
  not_failed true reading body e = cc
  not_failed false (Ok error) body e = cc
  not_failed false (Err fault) body e = cc

  abbrev success : Answer (Unit {0}) E
  success = accepted tt

  only_success : (b : Bool) (body : List ℕ) → (if b then success else failure_answer error_reading body) ≡ success → b ≡ true
  only_success true body e = refl
  only_success false body e = absurd (not_failed (length body == 0) (body_reading error_reading body) body e)

  status-accepted : (reply : ReplyView) → status_answer_of error_reading reply ≡ accepted tt → reply.status ≡ 200
  status-accepted reply e = (Decides-eqb reply.status 200).0 (only_success (reply.status == 200) reply.body e)

module _ {T E RE C : Type 0} (error_meaning : T → E) (error_reading : Data → Reading E) (step : C → HttpRequest → Result HttpResponse RE → C → Type 0) (before after : C) (client : Settings) (token : List ℕ) (hint : Option (List ℕ)) where
  pub OnOk-revoked : (url : Option Addressed) (r : TokenRevocation) → IsSome url
      → IfSome url (λ endpoint. IsHttps endpoint → r ≡ new_revocation_request client endpoint token hint)
      → IfSome url (λ endpoint. ¬ (IsHttps endpoint) → ⊥)
      → (done : Unit {0}) (result : Result (Unit {0}) (RequestTokenError RE T)) → result ≡ Ok done
      → AsksOnce (λ it. it) error_meaning step (status_answer_of error_reading) (IsRequestOf (revocation_configuration r)) (serialize r.revocation_url.url) before result after
      → (endpoint : Addressed) × (url ≡ Some endpoint) × IsHttps endpoint × (request : HttpRequest)
      × IsRequestOf (revocation_configuration (new_revocation_request client endpoint token hint)) (serialize endpoint.url) (view_of request)
      × (reply : HttpResponse) × step before request (Ok reply) after × ((reply_of reply).status ≡ 200)
  OnOk-revoked None r there secure insecure done result is_done once = cc
  OnOk-revoked (Some endpoint) r there secure insecure done (Ok value) is_done once =
      let https : IsHttps endpoint = stable (bytes_eq endpoint.url.scheme (codes "https")) (bytes_eq-Decides endpoint.url.scheme (codes "https")) insecure in
      let sent =
      AsksOnce-accepted {D = Unit {0}} {A = Unit {0}} (λ it. it) error_meaning step (status_answer_of error_reading) (IsRequestOf (revocation_configuration r)) (serialize r.revocation_url.url) before after value once in
      let asked = subst (λ q. IsRequestOf (revocation_configuration q) (serialize q.revocation_url.url) (view_of sent.0)) (secure https) sent.1 in
      (endpoint, refl, https, sent.0, asked, sent.2, sent.3, status-accepted error_reading (reply_of sent.2) sent.4)
  OnOk-revoked (Some endpoint) r there secure insecure done (Err error) is_done once = cc
