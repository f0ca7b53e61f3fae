-- How long a patient keeper waits, by what a server asks for.
use Rattle.std.proofs.Common.{rules, ◌≡◌, List, [], ◌∷◌, Option, Some, None, Result, Ok, Err, ap, subst, sym, ◌∙◌, refl, inl, inr, ℕ, ◌≤◌, arith}
use Rattle.std.specs.Prelude.{ℤ, pos, ◌+ℤ◌, int_le, int_lt, min, max, Bool, true, false, ◌&&◌, IsTrue, All, if◌then◌else◌}
use Rattle.std.proofs.lemmas.List.Elements.{All-nil, All-cons, All-head, All-tail}
use Rattle.jiff.proofs.SpanFacts.{signed_arith}
use Rattle.oauth2_wire.specs.declared.content_type.ReplyRule.{ReplyRule}
use Rattle.oauth2_wire.specs.declared.error.RequestTokenError.{RequestTokenError}
use Rattle.oauth2_wire.specs.declared.error.RequestTokenError.TheVariants as token
use Rattle.oauth2_wire.specs.Request.{RequestView}
use Rattle.oauth2_keeper.specs.declared.patient_keeper.PatientError.{PatientError}
use Rattle.oauth2_keeper.specs.declared.patient_keeper.PatientError.TheVariants.{Request, Waits, OtherTokenType}
use Rattle.oauth2_keeper.specs.Keeper.{Given}
use Rattle.oauth2_keeper.specs.Patience.{Patient, PatientCall, IsWaitBounded, wait_asked_by, wait_in_force, failed_call, counts, without_other_type, UsableCalls, EachAskedWaitIsHeeded, EachWaitIsBounded}
use Rattle.oauth2_keeper.proofs.Patience.{waited_for}

-- ---- a wait that is heeded

-- a wait in force is not shorter than the one that is asked for
longer : (least asked : ℕ) (moment now : ℤ) → IsTrue (int_le moment now && int_lt now (moment +ℤ pos asked))
    → IsTrue (int_le moment now && int_lt now (moment +ℤ pos (max least asked)))
longer least asked moment now early = search (rules, early, signed_arith)

all_longer : (least asked : ℕ) (moment : ℤ) (calls : List PatientCall) → All (λ call. IsTrue (int_le moment call.now && int_lt call.now (moment +ℤ pos asked))) calls
    → All (λ call. IsTrue (int_le moment call.now && int_lt call.now (moment +ℤ pos (max least asked)))) calls
all_longer least asked moment [] early = All-nil (λ call. IsTrue (int_le moment call.now && int_lt call.now (moment +ℤ pos (max least asked))))
all_longer least asked moment (call ∷ calls) early =
    let first = All-head (λ (call : PatientCall). IsTrue (int_le moment call.now && int_lt call.now (moment +ℤ pos asked))) call calls early in
    let others = All-tail (λ (call : PatientCall). IsTrue (int_le moment call.now && int_lt call.now (moment +ℤ pos asked))) call calls early in
    All-cons (λ call. IsTrue (int_le moment call.now && int_lt call.now (moment +ℤ pos (max least asked)))) call calls
    (longer least asked moment call.now first) (all_longer least asked moment calls others)

-- ---- the bounds of a wait

-- the bounds stay, and the wait is within them
abbrev StaysBounded : Patient → Patient → Type 0
StaysBounded patient kept = (kept.least_wait ≡ patient.least_wait) × (kept.most_asked_wait ≡ patient.most_asked_wait) × IsWaitBounded kept

force_bounded : (least most : ℕ) (asked : Option ℕ) → (least ≤ wait_in_force least most asked) × (wait_in_force least most asked ≤ max least most)
force_bounded least most None = (omega arith, omega arith)
force_bounded least most (Some asked) = (omega arith, omega arith)

bounded_if : (test : Bool) (least most wait : ℕ) (asked : Option ℕ) → (least ≤ wait) × (wait ≤ max least most)
    → (least ≤ (if test then wait_in_force least most asked else wait)) × ((if test then wait_in_force least most asked else wait) ≤ max least most)
bounded_if true least most wait asked within = force_bounded least most asked
bounded_if false least most wait asked within = within

module _ {D T RE C : Type 0} (asks : ReplyRule → (List ℕ → RequestView → Type 0) → List ℕ → C → Result D (RequestTokenError RE T) → C → Type 0) (told : D → Given) (asked : RE → Option ℕ) where
  -- the wait after an error that tells a wait
  in_force : (patient failed : Patient) (moment : ℤ) (error : RE) (wait : ℕ) → failed ≡ failed_call {T = T} asked patient moment (token.Request error) → asked error ≡ Some wait
      → max patient.least_wait (min patient.most_asked_wait wait) ≡ failed.wait
  in_force patient failed moment error wait is asks_for =
      ap (wait_in_force patient.least_wait patient.most_asked_wait) (sym asks_for) ∙ ap (λ (p : Patient). p.wait) (sym is)

  pub heeded : EachAskedWaitIsHeeded asks told asked
  heeded patient failed kept before middle after moment error wait calls made asks_for early run =
      let all = all_longer patient.least_wait (min patient.most_asked_wait wait) moment calls early in
      let in_time = subst (λ n. All (λ (call : PatientCall). IsTrue (int_le moment call.now && int_lt call.now (moment +ℤ pos n))) calls) (in_force (without_other_type patient) failed moment error wait made.2 asks_for) all in
      waited_for asks told asked patient failed kept before middle after moment (token.Request error) calls made refl in_time run

  one_bounded : (patient kept : Patient) (now : ℤ) (before after : C) (result : Result Unit (PatientError RE T)) → UsableCalls asks told asked patient now before result after kept
      → IsWaitBounded patient → StaysBounded patient kept
  one_bounded patient kept now before after (Ok done) (inl (free, made, usable, is)) within = subst (StaysBounded patient) (sym is) (refl, refl, within)
  one_bounded patient kept now before after (Ok done) (inr (held, same, is)) within = subst (StaysBounded patient) (sym is) (refl, refl, within)
  one_bounded patient kept now before after (Err (Request error)) (free, made, is) within =
      subst (StaysBounded patient) (sym is) (refl, refl, bounded_if (counts error) patient.least_wait patient.most_asked_wait patient.wait (wait_asked_by asked error) within)
  one_bounded patient kept now before after (Err OtherTokenType) (free, (got, made, other, is)) within =
      subst (StaysBounded patient) (sym is) (refl, refl, force_bounded patient.least_wait patient.most_asked_wait None)
  one_bounded patient kept now before after (Err (Waits until)) (held, told_end, same, is) within = subst (StaysBounded patient) (sym is) (refl, refl, within)

  pub bounded : EachWaitIsBounded asks told asked
  bounded patient kept before after [] (same, is) within = subst (StaysBounded patient) (sym is) (refl, refl, within)
  bounded patient kept before after (call ∷ calls) (flag, (result, middle, next, made, rest)) within =
      let first = one_bounded (without_other_type patient) next call.now before middle result made within in
      let later = bounded next kept middle after calls rest first.2 in
      (later.0 ∙ first.0, later.1 ∙ first.1, later.2)
