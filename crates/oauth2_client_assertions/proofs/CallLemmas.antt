-- A call of a client that adds assertions.
use Rattle.std.proofs.Common.{◌≡◌, Bool, true, false, refl, sym, ap, subst, inl, inr}
use Rattle.std.specs.Prelude.{Result, Ok, Err, String}
use Rattle.std.specs.Bool.{MatchBool}
use Rattle.std.specs.declared.alloc.Global.{Global}
use Rattle.std.proofs.lemmas.Bool.{false≢true}
use Rattle.oauth2_wire.specs.Reply.{HttpResponse}
use Rattle.oauth2_wire.specs.Request.{HttpRequest, view_of}
use Rattle.oauth2_client_assertions.specs.AssertingCall.{Asserter, CallsAsserting, SendsWith, inner_result}
use Rattle.oauth2_client_assertions.specs.Endpoints.{is_endpoint}
use Rattle.oauth2_client_assertions.specs.Requests.{authenticates, is_form_post}
use Rattle.oauth2_client_assertions.specs.private.Asking.{Asks, IsAsserted}
use Rattle.oauth2_client_assertions.specs.declared.assertion_type.AssertionType.{AssertionType}
use Rattle.oauth2_client_assertions.specs.declared.error.AssertingError.{AssertingError}

match_true : (P Q : Type 0) (b : Bool) → b ≡ true → P → MatchBool b P Q
match_true P Q true is p = p
match_true P Q false is p = absurd (false≢true is)

match_false : (P Q : Type 0) (b : Bool) → b ≡ false → Q → MatchBool b P Q
match_false P Q true is q = absurd (false≢true (sym is))
match_false P Q false is q = q

module _ {C S E SE : Type 0} (step : C → HttpRequest → Result HttpResponse E → C → Type 0) (asks : S → Result (String Global) SE → S → Type 0) where
  -- ---- one assertion

  sent_with : (kind : AssertionType) (request sent : HttpRequest) (assertion : Result (String Global) SE) (before after : C)
      (result : Result HttpResponse (AssertingError E SE)) (answer : Result HttpResponse E)
      → IsAsserted {E = E} kind (view_of request) assertion (Ok sent) → step before sent answer after → result ≡ inner_result answer
      → SendsWith step kind request assertion before result after
  sent_with kind request sent (Ok text) before after result answer extended stepped is = inl (sent, extended, (answer, stepped, is))
  sent_with kind request sent (Err fault) before after result answer wrong stepped is = absurd wrong

  not_sent : (kind : AssertionType) (request : HttpRequest) (assertion : Result (String Global) SE) (client : C) (fault : AssertingError E SE)
      → IsAsserted {E = E} kind (view_of request) assertion (Err fault) → SendsWith step kind request assertion client (Err fault) client
  not_sent kind request (Ok text) client fault is = inr (ap Err is, refl)
  not_sent kind request (Err why) client fault is = (ap Err is, refl)

  -- ---- the whole call; `held` is what the client holds before it

  pub passes : {held before : Asserter C S} (called : C) (request : HttpRequest) (result : Result HttpResponse (AssertingError E SE)) (answer : Result HttpResponse E)
      → held ≡ before → is_form_post (view_of request) ≡ false → step held.client request answer called → result ≡ inner_result answer
      → CallsAsserting step asks before request result (record held { client = called })
  passes {held = held} called request result answer same lacks_it stepped is =
      subst (λ (b : Asserter C S). CallsAsserting step asks b request result (record held { client = called })) same
      (refl, refl, match_false _ _ _ lacks_it ((answer, stepped, is), refl))

  pub sends : {held before : Asserter C S} (asked : S) (called : C) (request sent : HttpRequest) (result : Result HttpResponse (AssertingError E SE)) (answer : Result HttpResponse E)
      → held ≡ before → is_form_post (view_of request) ≡ true → is_endpoint held.endpoints (view_of request).target ≡ true → authenticates (view_of request) ≡ false
      → Asks {E = E} asks held.assertion_type (view_of request) held.source (Ok sent) asked
      → step held.client sent answer called → result ≡ inner_result answer
      → CallsAsserting step asks before request result (record held { client = called; source = asked })
  sends {held = held} asked called request sent result answer same has_form for_it not_yet asking stepped is =
      subst (λ (b : Asserter C S). CallsAsserting step asks b request result (record held { client = called; source = asked })) same
      (refl, refl, match_true _ _ _ has_form (match_true _ _ _ for_it (match_false _ _ _ not_yet (asking.0, asking.1, sent_with held.assertion_type request sent asking.0 held.client called result answer asking.2 stepped is))))

  pub fails : {held before : Asserter C S} (asked : S) (request : HttpRequest) (fault : AssertingError E SE)
      → held ≡ before → is_form_post (view_of request) ≡ true → is_endpoint held.endpoints (view_of request).target ≡ true → authenticates (view_of request) ≡ false
      → Asks {E = E} asks held.assertion_type (view_of request) held.source (Err fault) asked
      → CallsAsserting step asks before request (Err fault) (record held { source = asked })
  fails {held = held} asked request fault same has_form for_it not_yet asking =
      subst (λ (b : Asserter C S). CallsAsserting step asks b request (Err fault) (record held { source = asked })) same
      (refl, refl, match_true _ _ _ has_form (match_true _ _ _ for_it (match_false _ _ _ not_yet (asking.0, asking.1, not_sent held.assertion_type request asking.0 held.client fault asking.2))))
