-- The calls that were made so far, and those that are still to come.
use Rattle.std.proofs.Common.{◌≡◌, ℕ, ◌+◌, ◌*◌, ◌-◌, ◌<◌, ◌≤◌, Bool, true, false, List, [], ◌∷◌, ◌++◌, length, refl, sym, subst, ◌∙◌, arith, append_assoc, length-append, eq-eqb}
use Rattle.std.specs.Prelude.{◌==◌, ◌||◌, not, min, IsTrue, MatchBool, All, Result}
use Rattle.std.specs.declared.time.Duration.{Duration}
use Rattle.std.specs.Duration.{max_nanos}
use Rattle.std.proofs.lemmas.List.{append-nil}
use Rattle.std.proofs.lemmas.List.Elements.{All-nil, All-push}
use Rattle.http.specs.Request.{head_of}
use Rattle.oauth2_wire.specs.Reply.{HttpResponse}
use Rattle.oauth2_wire.specs.Request.{HttpRequest, RequestView, IsCopyOf, view_of}
use Rattle.oauth2_http1_connections.specs.retries.Answers.{is_repeatable}
use Rattle.oauth2_http1_connections.specs.retries.Limits.{Limits}
use Rattle.oauth2_http1_connections.specs.retries.Repeats.{SendsInTurn, Repeats}
use Rattle.oauth2_http1_connections.specs.retries.private.Try.{SleepsAfter, Ends}
use Rattle.oauth2_http1_connections.proofs.retries.PauseLemmas.{pause_after-within, doubled}

-- a request is a copy of itself
pub copy_of_itself : (v : RequestView) → IsCopyOf v v
copy_of_itself v = (refl, (refl, refl, refl), refl, refl, refl)

module _ {C E : Type 0} (step : C → HttpRequest → Result HttpResponse E → C → Type 0) (sleeps : C → Duration → C → Type 0) (unsent : E → Bool) (limits : Limits) (request : HttpRequest) (start : C) where
  -- the client was called and slept some times, and so many repeats are left; `due` is the wait that no limit cuts
  pub record SoFar (now : C) (left wait : ℕ) : Type 0 where
    pub earlier : List (Result HttpResponse E)
    pub count : length earlier + left ≡ limits.most_repeats
    pub each : All (λ answer. IsTrue (is_repeatable unsent (head_of request).method answer)) earlier
    pub due : ℕ
    pub cut : min limits.most_wait wait ≡ min limits.most_wait due
    pub calls : (answers : List (Result HttpResponse E)) (result : Result HttpResponse E) (after : C)
        → SendsInTurn step sleeps request limits.most_wait due now answers result after
        → SendsInTurn step sleeps request limits.most_wait limits.first_wait start (earlier ++ answers) result after

  pub none_yet : SoFar start limits.most_repeats limits.first_wait
  none_yet = record {
    earlier = [];
    count = omega arith;
    each = All-nil (λ answer. IsTrue (is_repeatable unsent (head_of request).method answer));
    due = limits.first_wait;
    cut = refl;
    calls = λ answers result after rest. rest;
  }

  -- one more call, and the sleep behind it
  pub one_more : (now next : C) (left wait longer : ℕ) (sent : HttpRequest) → SoFar now left wait → 0 < left → IsCopyOf (view_of request) (view_of sent)
      → SleepsAfter step sleeps unsent limits.most_wait wait request sent now next → limits.most_wait ≤ max_nanos
      → longer ≡ min limits.most_wait (min (wait * 2) max_nanos) → SoFar next (left - 1) longer
  one_more now next left wait longer sent far some copy turn fits is = record {
    earlier = far.earlier ++ turn.answer ∷ [];
    count = omega (arith, far.count, length-append far.earlier (turn.answer ∷ []));
    each = All-push (λ answer. IsTrue (is_repeatable unsent (head_of request).method answer)) far.earlier turn.answer far.each turn.again;
    due = 2 * far.due;
    cut = doubled limits.most_wait wait far.due longer far.cut fits is;
    calls = λ answers result after rest.
        subst (λ (all : List (Result HttpResponse E)). SendsInTurn step sleeps request limits.most_wait limits.first_wait start all result after)
        (sym (append_assoc far.earlier (turn.answer ∷ []) answers))
        (far.calls (turn.answer ∷ answers) result after
        (turn.called, next, turn.duration, (sent, copy, turn.calls), turn.time ∙ pause_after-within limits.most_wait wait far.due turn.answer far.cut, turn.slept, rest));
  }

  -- the last call
  ended : (now after : C) (left wait : ℕ) (sent : HttpRequest) (result : Result HttpResponse E) (is_cut_short : Bool) → (far : SoFar now left wait) → IsCopyOf (view_of request) (view_of sent)
      → step now sent result after
      → MatchBool is_cut_short (length far.earlier < limits.most_repeats) (IsTrue (not (is_repeatable unsent (head_of request).method result) || length far.earlier == limits.most_repeats))
      → Repeats step sleeps unsent limits start request result after is_cut_short
  ended now after left wait sent result is_cut_short far copy called end = record {
    earlier = far.earlier;
    calls = subst (λ (all : List (Result HttpResponse E)). SendsInTurn step sleeps request limits.most_wait limits.first_wait start all result after)
        (append-nil far.earlier) (far.calls [] result after (sent, copy, called));
    each = far.each;
    most = omega (arith, far.count);
    end = end;
  }

  -- there was no memory for a copy
  pub cut_short : (now after : C) (left wait : ℕ) (result : Result HttpResponse E) → SoFar now left wait → 0 < left → step now request result after
      → Repeats step sleeps unsent limits start request result after true
  cut_short now after left wait result far some called =
      ended now after left wait request result true far (copy_of_itself (view_of request)) called (omega (arith, far.count))

  first_is : (a b : Bool) → a ≡ false → IsTrue (not a || b)
  first_is a b e = rw e refl

  second_is : (a b : Bool) → b ≡ true → IsTrue (not a || b)
  second_is true b e = e
  second_is false b e = refl

  -- it is not to be sent again
  pub answered : (now after : C) (left wait : ℕ) (sent : HttpRequest) (result : Result HttpResponse E) → SoFar now left wait → IsCopyOf (view_of request) (view_of sent)
      → Ends step unsent request sent now result after → Repeats step sleeps unsent limits start request result after false
  answered now after left wait sent result far copy ends =
      ended now after left wait sent result false far copy ends.0 (first_is (is_repeatable unsent (head_of request).method result) (length far.earlier == limits.most_repeats) ends.1)

  -- no repeat is left
  pub spent : (now after : C) (left wait : ℕ) (result : Result HttpResponse E) → SoFar now left wait → left ≤ 0 → step now request result after
      → Repeats step sleeps unsent limits start request result after false
  spent now after left wait result far none called =
      ended now after left wait request result false far (copy_of_itself (view_of request)) called
      (second_is (is_repeatable unsent (head_of request).method result) (length far.earlier == limits.most_repeats) (eq-eqb (length far.earlier) limits.most_repeats (omega (arith, far.count))))
