-- More input after what was used changes nothing.
use Rattle.std.proofs.Common.{◌≡◌, ℕ, zero, suc, ◌<◌, ◌≤◌, List, [], ◌∷◌, ◌++◌, length, refl, ap, sym, ◌∙◌, arith, length-append}
use Rattle.std.specs.Prelude.{slice_get, ℤ}
use Rattle.std.specs.List.{fold}
use Rattle.std.proofs.lemmas.List.{take-append-le}
use Rattle.oauth2_poll.specs.declared.device_poll.PollAnswer.{PollAnswer}
use Rattle.oauth2_poll.specs.State.{PollState}
use Rattle.oauth2_poll.specs.Step.{next_interval}
use Rattle.oauth2_poll.specs.Trace.{PollInput, TraceEvent, Reading, Asked, Answered, Slept, answer_in_round, IsLate, GoesOn, interval_after, rounds, readings_in, answers_in}
use Rattle.oauth2_poll.proofs.Lists.{slice_get-append_left}
use Rattle.oauth2_poll.proofs.Open.{IsOpen}

-- the same poll with more input
abbrev pub more : PollInput → List ℤ → List PollAnswer → PollInput
more p ts bs = record p { readings = p.readings ++ ts; answers = p.answers ++ bs }

module _ (p : PollInput) (ts : List ℤ) (bs : List PollAnswer) where
  reading_same : (i : ℕ) → i < length p.readings → slice_get (more p ts bs).readings i ≡ slice_get p.readings i
  reading_same i h = slice_get-append_left p.readings ts i h

  answer_same : (i : ℕ) → i ≤ length p.answers → answer_in_round (more p ts bs).answers i ≡ answer_in_round p.answers i
  answer_same zero h = refl
  answer_same (suc i) h = slice_get-append_left p.answers bs i (omega (arith, h))

  interval_same : (i : ℕ) → i ≤ length p.answers → interval_after (more p ts bs) i ≡ interval_after p i
  interval_same i h = ap (fold (next_interval p.cap) p.interval) (take-append-le i p.answers bs h)

  rounds_same : (k : ℕ) → k < length p.readings → k ≤ length p.answers → rounds (more p ts bs) k ≡ rounds p k
  rounds_same zero h j = refl
  rounds_same (suc k) h j =
      let before : rounds (more p ts bs) k ≡ rounds p k = rounds_same k (omega arith) (omega arith) in
      let r = reading_same (suc k) h in
      let a = answer_same (suc k) j in
      let d = interval_same (suc k) j in
      rw (before, r, a, d) refl

  late_same : (i : ℕ) → 0 < length p.readings → i < length p.readings → IsLate (more p ts bs) i → IsLate p i
  late_same i z h l =
      record { start = l.start; moment = l.moment; first = sym (reading_same 0 z) ∙ l.first; here = sym (reading_same i h) ∙ l.here; after = l.after }

  goes_same : (i : ℕ) → i < length p.readings → i ≤ length p.answers → GoesOn p i → GoesOn (more p ts bs) i
  goes_same i h j g =
      record {
        in_time = λ l. g.in_time (late_same i (omega arith) h l);
        open_answer = λ d. g.open_answer (sym (answer_same i j) ∙ d);
        below = g.below;
      }

  pub open_more : (k : ℕ) (xs : List TraceEvent) (poll : PollState) → IsOpen p k xs poll → IsOpen (more p ts bs) k xs poll
  open_more k xs poll o =
      let there = o.readings_there in
      let answers = o.answers_there in
      let z : 0 < length p.readings = omega arith in
      let r = reading_same 0 z in
      let rs = rounds_same k there answers in
      record {
        start = o.start;
        first = reading_same 0 z ∙ o.first;
        fits = o.fits;
        in_range = o.in_range;
        so_far = o.so_far ∙ sym (rw (r, rs) refl);
        interval = o.interval ∙ sym (interval_same k answers);
        cap = o.cap;
        deadline = o.deadline;
        left = o.left;
        some_left = o.some_left;
        earlier = λ i one below. goes_same i (omega arith) (omega arith) (o.earlier i one below);
        readings_there = rw length-append (omega arith);
        answers_there = rw length-append (omega arith);
      }

-- what a list of events followed by another has of each
pub readings_in-append : (xs ys : List TraceEvent) → readings_in (xs ++ ys) ≡ readings_in xs ++ readings_in ys
readings_in-append [] ys = refl
readings_in-append (Reading t ∷ xs) ys = ap (λ (l : List ℤ). t ∷ l) (readings_in-append xs ys)
readings_in-append (Asked ∷ xs) ys = readings_in-append xs ys
readings_in-append (Answered a ∷ xs) ys = readings_in-append xs ys
readings_in-append (Slept d ∷ xs) ys = readings_in-append xs ys

pub answers_in-append : (xs ys : List TraceEvent) → answers_in (xs ++ ys) ≡ answers_in xs ++ answers_in ys
answers_in-append [] ys = refl
answers_in-append (Reading t ∷ xs) ys = answers_in-append xs ys
answers_in-append (Asked ∷ xs) ys = answers_in-append xs ys
answers_in-append (Answered a ∷ xs) ys = ap (λ (l : List PollAnswer). a ∷ l) (answers_in-append xs ys)
answers_in-append (Slept d ∷ xs) ys = answers_in-append xs ys
