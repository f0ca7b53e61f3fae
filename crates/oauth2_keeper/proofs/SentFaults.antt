-- A fault counts exactly if its request reached the client.
use Rattle.std.proofs.Common.{rules, ◌≡◌, ℕ, List, Option, None, Some, Result, Ok, Err, String, Global, subst, sym, ap, refl}
use Rattle.std.specs.Prelude.{Bool, true, false, not, ◌==◌, length, bytes_eq, string_bytes, if◌then◌else◌}
use Rattle.oauth2_wire.specs.ContentType.{is_json_type}
use Rattle.oauth2_wire.specs.declared.content_type.ReplyRule.{ReplyRule}
use Rattle.oauth2_wire.specs.declared.error.RequestTokenError.{RequestTokenError}
use Rattle.oauth2_wire.specs.declared.error.RequestTokenError.TheVariants as token
use Rattle.oauth2_wire.specs.declared.request.RequestFault.TheVariants as fault
use Rattle.oauth2_wire.specs.Once.{AsksOnce, not_http_text}
use Rattle.oauth2_wire.specs.Request.{HttpRequest, RequestView, IsRequestOf}
use Rattle.oauth2_wire.specs.Reply.{HttpResponse, Answer, accepted, refused, unread, other, ReplyView, reply_of, ShowsFault, read_answer, body_answer, success_answer, answer_of}
use Rattle.oauth2_keeper.specs.Patience.{counts, IsCalledIf, EachSentFaultCounts}

-- the answer is not what is said of an endpoint that is no HTTP target
abbrev pub SaysElse : {A E : Type 0} → Answer A E → Type 0
SaysElse (accepted value) = Unit {0}
SaysElse (refused error) = Unit {0}
SaysElse (unread fault body) = Unit {0}
SaysElse (other text) = bytes_eq text not_http_text ≡ false

module _ (A E : Type 0) where
  pub either : (test : Bool) (one two : Answer A E) → SaysElse one → SaysElse two → SaysElse (if test then one else two)
  either true one two first second = first
  either false one two first second = second

  pub of_success : (body : List ℕ) (read : _) → SaysElse (read_answer {A = A} {E = E} accepted body read)
  of_success body (Ok value) = tt
  of_success body (Err fault) = tt

  pub of_failure : (body : List ℕ) (read : _) → SaysElse (read_answer {A = A} {E = E} refused body read)
  of_failure body (Ok error) = tt
  of_failure body (Err fault) = tt

  pub of_body : (reading : _) (body : List ℕ) → SaysElse (body_answer {A = A} {E = E} reading body)
  of_body reading body = either (length body == 0) _ _ refl (of_success body _)

  pub of_type : (rule : ReplyRule) (reading : _) (value : Option (List ℕ)) (body : List ℕ) → SaysElse (success_answer {A = A} {E = E} rule reading value body)
  of_type rule reading None body = of_body reading body
  of_type rule reading (Some value) body = either (is_json_type rule value) _ _ (of_body reading body) refl

  pub of_reply : (rule : ReplyRule) (reading error_reading : _) (reply : ReplyView) → SaysElse (answer_of {A = A} {E = E} rule reading error_reading reply)
  of_reply rule reading error_reading reply =
      either (reply.status == 200) _ _ (of_type rule reading reply.content_type reply.body)
      (either (length reply.body == 0) _ _ refl (of_failure reply.body _))

module _ {A T E RE : Type 0} (error_meaning : T → E) where
  pub shown : (answer : Answer A E) → SaysElse answer → (error : RequestTokenError RE T) → ShowsFault error_meaning answer error → counts error ≡ true
  shown answer says (token.ServerResponse error) is = refl
  shown answer says (token.Parse fault body) is = refl
  shown answer says (token.Request error) is = absurd is
  shown answer says (token.Memory sent) is = search (rules, is)
  shown answer says (token.Other text) is = ap not (subst SaysElse is says)

-- an error that says that the endpoint is no HTTP target does not count
pub not_http_counts : (T RE : Type 0) (text : String Global) → string_bytes text ≡ not_http_text → counts {RE = RE} {T = T} (token.Other text) ≡ false
not_http_counts T RE text said = rw said refl

module _ {D A T E RE C : Type 0} (meaning : D → A) (error_meaning : T → E) (step : C → HttpRequest → Result HttpResponse RE → C → Type 0) where
  module _ (says : ReplyView → Answer A E) (IsRequest : List ℕ → RequestView → Type 0) (url : List ℕ) (before after : C) where
    abbrev CallsIf : RequestTokenError RE T → Type 0
    CallsIf error = IsCalledIf step (counts error) before after

    pub failed : ((reply : ReplyView) → SaysElse (says reply)) → (error : RequestTokenError RE T)
        → AsksOnce {D = D} meaning error_meaning step says IsRequest url before (Err error) after → CallsIf error
    failed differs error (Ok request, is, target, (Ok reply, did, shows)) =
        let sent : counts error ≡ true = shown error_meaning (says (reply_of reply)) (differs (reply_of reply)) error shows in
        subst (λ b. IsCalledIf step b before after) (sym sent) (request, Ok reply, did)
    failed differs error (Ok request, is, target, (Err cause, did, fails)) =
        let same : error ≡ token.Request cause = cc in
        subst CallsIf (sym same) (request, Err cause, did)
    failed differs (token.Memory sent) (Err kind, is, target, (unsent, same)) = subst (λ b. IsCalledIf step b before after) (sym unsent) same
    failed differs (token.Other text) (Err fault.NotHttp, is, target, (said, same)) =
        subst (λ b. IsCalledIf step b before after) (sym (not_http_counts T RE text said)) same
    failed differs (token.Other text) (Err fault.Memory, is, target, unsent) = absurd unsent
    failed differs (token.ServerResponse error) (Err kind, is, target, unsent) = absurd unsent
    failed differs (token.Request error) (Err kind, is, target, unsent) = absurd unsent
    failed differs (token.Parse fault body) (Err kind, is, target, unsent) = absurd unsent

  pub sent_counts : (reading error_reading : _) → EachSentFaultCounts (λ rule. AsksOnce meaning error_meaning step (answer_of rule reading error_reading)) step
  sent_counts reading error_reading keeper before after error renews =
      failed (answer_of keeper.client.reply_rule reading error_reading) (IsRequestOf _) _ before after (of_reply A E keeper.client.reply_rule reading error_reading) error renews.2
