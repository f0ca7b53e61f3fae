-- What comes before a request in what is planned, and how long the poll waited until then.
use Rattle.std.proofs.Common.{◌≡◌, ℕ, zero, suc, ◌+◌, ◌-◌, ◌*◌, ◌/◌, ◌<◌, ◌≤◌, List, [], ◌∷◌, ◌++◌, map, take, length, Option, Some, None, refl, ap, sym, ◌∙◌, subst, append_assoc, arith, ◌⊎◌, inl, inr}
use Rattle.std.specs.Prelude.{slice_get, ℤ, pos, ◌+ℤ◌, ◌<ℤ◌, ◌≤ℤ◌}
use Rattle.std.specs.Option.{option_map}
use Rattle.std.specs.Duration.{max_nanos}
use Rattle.std.proofs.lemmas.List.{map-append, length-take, take-take, take-append-le}
use Rattle.std.proofs.lemmas.Option.{slice_get_within}
use Rattle.std.proofs.lemmas.Int.{by_lt_z, ints}
use Rattle.std.proofs.lemmas.Nat.{le-div}
use Rattle.oauth2_poll.specs.declared.device_poll.PollAnswer.{PollAnswer}
use Rattle.oauth2_poll.specs.Step.{TimeoutFits}
use Rattle.oauth2_poll.specs.Trace.{PollInput, TraceEvent, Reading, Asked, Answered, Slept, Ending, TooLong, OutOfRange, Late, Decided, Limited, IsLate, IsReached, IsEnding, answer_in_round, interval_after, reading_at, answer_at, round, rounds, poll_events, answers_in}
use Rattle.oauth2_poll.specs.Pacing.{requests_in, slow_downs, slow_downs_to, ClockIsHonest, RequestsFit}
use Rattle.oauth2_poll.specs.Laws.{RequestsAreBounded}
use Rattle.oauth2_poll.proofs.Lists.{take_one_more}
use Rattle.oauth2_poll.proofs.Extend.{answers_in-append}
use Rattle.oauth2_poll.proofs.Intervals.{sleeps_to, waited}

-- a request after these events, and what follows it
abbrev pub has_request : List (Option TraceEvent) → List TraceEvent → List (Option TraceEvent) → Type 0
has_request xs before rest = xs ≡ map Some before ++ Some Asked ∷ rest

pub requests_in-append : (xs ys : List TraceEvent) → requests_in (xs ++ ys) ≡ requests_in xs + requests_in ys
requests_in-append [] ys = omega arith
requests_in-append (Reading t ∷ xs) ys = requests_in-append xs ys
requests_in-append (Asked ∷ xs) ys = let e = requests_in-append xs ys in omega (arith, e)
requests_in-append (Answered a ∷ xs) ys = requests_in-append xs ys
requests_in-append (Slept d ∷ xs) ys = requests_in-append xs ys

-- the request of a round comes first
pub record Here (r : Option ℤ) (back : List TraceEvent) : Type 0 where
  pub moment : ℤ
  pub read : r ≡ Some moment
  pub back_is : back ≡ Reading moment ∷ []

-- it comes after the round
pub record There (r : Option ℤ) (a : Option PollAnswer) (d : ℕ) (tail : List (Option TraceEvent)) (back : List TraceEvent) (rest : List (Option TraceEvent)) : Type 0 where
  pub moment : ℤ
  pub read : r ≡ Some moment
  pub answer : PollAnswer
  pub given : a ≡ Some answer
  pub further : List TraceEvent
  pub back_is : back ≡ Reading moment ∷ Asked ∷ Answered answer ∷ Slept d ∷ further
  pub later : has_request tail further rest

in_round : (r : Option ℤ) (a : Option PollAnswer) (d : ℕ) (tail rest : List (Option TraceEvent)) (back : List TraceEvent) → has_request (option_map Reading r ∷ Some Asked ∷ option_map Answered a ∷ Some (Slept d) ∷ tail) back rest → Here r back ⊎ There r a d tail back rest
in_round None a d tail rest [] h = absurd cc
in_round None a d tail rest (x ∷ back) h = absurd cc
in_round (Some t) a d tail rest [] h = absurd cc
in_round (Some t) a d tail rest (x ∷ []) h = inl (record { moment = t; read = refl; back_is = cc })
in_round (Some t) None d tail rest (x ∷ y ∷ []) h = absurd cc
in_round (Some t) (Some b) d tail rest (x ∷ y ∷ []) h = absurd cc
in_round (Some t) None d tail rest (x ∷ y ∷ z ∷ back) h = absurd cc
in_round (Some t) (Some b) d tail rest (x ∷ y ∷ z ∷ []) h = absurd cc
in_round (Some t) (Some b) d tail rest (x ∷ y ∷ z ∷ w ∷ further) h =
    inr (record { moment = t; read = refl; answer = b; given = refl; further = further; back_is = cc; later = cc })

no_request_in_reading : (r : Option ℤ) (before : List TraceEvent) (rest : List (Option TraceEvent)) → has_request (option_map Reading r ∷ []) before rest → ⊥
no_request_in_reading None [] rest h = cc
no_request_in_reading None (x ∷ before) rest h = cc
no_request_in_reading (Some t) [] rest h = cc
no_request_in_reading (Some t) (x ∷ []) rest h = cc
no_request_in_reading (Some t) (x ∷ y ∷ before) rest h = cc

in_last : (r : Option ℤ) (a : Option PollAnswer) (back : List TraceEvent) (rest : List (Option TraceEvent)) → has_request (option_map Reading r ∷ Some Asked ∷ option_map Answered a ∷ []) back rest → Here r back
in_last None a [] rest h = absurd cc
in_last None a (x ∷ back) rest h = absurd cc
in_last (Some t) a [] rest h = absurd cc
in_last (Some t) a (x ∷ []) rest h = record { moment = t; read = refl; back_is = cc }
in_last (Some t) None (x ∷ y ∷ []) rest h = absurd cc
in_last (Some t) (Some b) (x ∷ y ∷ []) rest h = absurd cc
in_last (Some t) None (x ∷ y ∷ z ∷ back) rest h = absurd cc
in_last (Some t) (Some b) (x ∷ y ∷ z ∷ []) rest h = absurd cc
in_last (Some t) (Some b) (x ∷ y ∷ z ∷ w ∷ back) rest h = absurd cc

first_is : (r : Option ℤ) (x : TraceEvent) → option_map Reading r ≡ Some x → (t : ℤ) × (r ≡ Some t) × (x ≡ Reading t)
first_is None x h = absurd cc
first_is (Some t) x h = (t, refl, cc)

after_first : (x y : TraceEvent) (xs ys : List TraceEvent) → x ≡ y → xs ≡ ys → x ∷ xs ≡ y ∷ ys
after_first x y xs ys first rest = rw (first, rest) refl

-- the last request of a list, if it has one
pub record LastRequest (xs : List TraceEvent) : Type 0 where
  pub before : List TraceEvent
  pub after : List TraceEvent
  pub is : xs ≡ before ++ Asked ∷ after
  pub none_after : requests_in after ≡ 0

later : (x : TraceEvent) (xs : List TraceEvent) → LastRequest xs → LastRequest (x ∷ xs)
later x xs l = record { before = x ∷ l.before; after = l.after; is = ap (λ (ys : List TraceEvent). x ∷ ys) l.is; none_after = l.none_after }

last_request : (xs : List TraceEvent) → (requests_in xs ≡ 0) ⊎ LastRequest xs
last_request [] = inl refl
last_request (Reading t ∷ xs) = elim (last_request xs) [ inl none ↦ inl none | inr l ↦ inr (later _ xs l) ]
last_request (Asked ∷ xs) =
    elim (last_request xs) [ inl none ↦ inr (record { before = []; after = xs; is = refl; none_after = none }) | inr l ↦ inr (later _ xs l) ]
last_request (Answered a ∷ xs) = elim (last_request xs) [ inl none ↦ inl none | inr l ↦ inr (later _ xs l) ]
last_request (Slept d ∷ xs) = elim (last_request xs) [ inl none ↦ inl none | inr l ↦ inr (later _ xs l) ]

-- slow-downs are counted in the answers that both lists begin with
same_slow_downs : (xs ys : List PollAnswer) (n m : ℕ) → m ≤ n → take n xs ≡ take n ys → slow_downs_to xs m ≡ slow_downs_to ys m
same_slow_downs xs ys n zero h e = refl
same_slow_downs xs ys n (suc m) h e =
    let before = same_slow_downs xs ys n m (omega arith) e in
    let here : take (suc m) xs ≡ take (suc m) ys = sym (take-take (suc m) n xs h) ∙ ap (take (suc m)) e ∙ take-take (suc m) n ys h in
    let count : slow_downs (take (suc m) xs) ≡ slow_downs (take (suc m) ys) = ap slow_downs here in
    omega (arith, before, count)

module _ (p : PollInput) where
  -- rounds 1 to n, as the poll did them
  pub data Did : ℕ → List TraceEvent → Type 0 where
    nothing : Did zero []
    one_more : (n : ℕ) (front : List TraceEvent) (moment : ℤ) (answer : PollAnswer) → Did n front → slice_get p.readings (suc n) ≡ Some moment → slice_get p.answers n ≡ Some answer → Did (suc n) (front ++ Reading moment ∷ Asked ∷ Answered answer ∷ Slept (interval_after p (suc n)) ∷ [])

  -- a request of a round up to n
  record IsFound (n : ℕ) (before : List TraceEvent) : Type 0 where
    pub rounds_before : ℕ
    pub below : rounds_before < n
    pub front : List TraceEvent
    pub did : Did rounds_before front
    pub moment : ℤ
    pub read : slice_get p.readings (suc rounds_before) ≡ Some moment
    pub split : before ≡ front ++ Reading moment ∷ []

  record IsPast (n : ℕ) (tail : List (Option TraceEvent)) (before : List TraceEvent) (rest : List (Option TraceEvent)) : Type 0 where
    pub front : List TraceEvent
    pub did : Did n front
    pub back : List TraceEvent
    pub split : before ≡ front ++ back
    pub later : has_request tail back rest

  after_round : (n : ℕ) (tail rest : List (Option TraceEvent)) (before : List TraceEvent) → IsPast n (round p (suc n) ++ tail) before rest → IsFound (suc n) before ⊎ IsPast (suc n) tail before rest
  after_round n tail rest before past =
      elim (in_round (slice_get p.readings (suc n)) (slice_get p.answers n) (interval_after p (suc n)) tail rest past.back past.later) [
        | inl h ↦ inl (record {
          rounds_before = n;
          below = omega arith;
          front = past.front;
          did = past.did;
          moment = h.moment;
          read = h.read;
          split = rw (past.split, h.back_is) refl;
        })
        | inr h ↦ inr (record {
          front = past.front ++ Reading h.moment ∷ Asked ∷ Answered h.answer ∷ Slept (interval_after p (suc n)) ∷ [];
          did = one_more n past.front h.moment h.answer past.did h.read h.given;
          back = h.further;
          split = rw (past.split, h.back_is) (sym (append_assoc past.front _ h.further));
          later = h.later;
        })
      ]

  wider : (n : ℕ) (before : List TraceEvent) → IsFound n before → IsFound (suc n) before
  wider n before f = record {
    rounds_before = f.rounds_before;
    below = let b = f.below in omega (arith, b);
    front = f.front;
    did = f.did;
    moment = f.moment;
    read = f.read;
    split = f.split;
  }

  in_rounds : (n : ℕ) (tail rest : List (Option TraceEvent)) (before : List TraceEvent) → has_request (rounds p n ++ tail) before rest → IsFound n before ⊎ IsPast n tail before rest
  in_rounds zero tail rest before h = inr (record { front = []; did = nothing; back = before; split = refl; later = h })
  in_rounds (suc n) tail rest before h =
      elim (in_rounds n (round p (suc n) ++ tail) rest before (sym (append_assoc (rounds p n) (round p (suc n)) tail) ∙ h)) [
        | inl f ↦ inl (wider n before f)
        | inr past ↦ after_round n tail rest before past
      ]

  -- a request in time, after the start and the rounds before it
  pub record IsRequest (before : List TraceEvent) : Type 0 where
    pub start : ℤ
    pub first : slice_get p.readings 0 ≡ Some start
    pub rounds_before : ℕ
    pub front : List TraceEvent
    pub did : Did rounds_before front
    pub moment : ℤ
    pub read : slice_get p.readings (suc rounds_before) ≡ Some moment
    pub in_time : ¬ (IsLate p (suc rounds_before))
    pub split : before ≡ Reading start ∷ (front ++ Reading moment ∷ [])

  found_in : (n m : ℕ) (start : ℤ) (x : TraceEvent) (before : List TraceEvent) → IsReached p n → m < n → slice_get p.readings 0 ≡ Some start → x ≡ Reading start → IsFound m before → IsRequest (x ∷ before)
  found_in n m start x before reached below first is f =
      let b = f.below in
      record {
        start = start;
        first = first;
        rounds_before = f.rounds_before;
        front = f.front;
        did = f.did;
        moment = f.moment;
        read = f.read;
        in_time = (reached.earlier (suc f.rounds_before) (omega arith) (omega (arith, b, below))).in_time;
        split = rw (is, f.split) refl;
      }

  last_before : (n : ℕ) → 1 ≤ n → suc (n - 1) ≡ n
  last_before n h = omega (arith, h)

  in_late : (n : ℕ) (before : List TraceEvent) (rest : List (Option TraceEvent)) → IsReached p n → has_request (reading_at p 0 ∷ (rounds p (n - 1) ++ reading_at p n ∷ [])) before rest → IsRequest before
  in_late n [] rest reached h = absurd (let f = first_is (slice_get p.readings 0) Asked cc in let e = f.2 in cc)
  in_late n (x ∷ before) rest reached h =
      let f = first_is (slice_get p.readings 0) x cc in
      elim (in_rounds (n - 1) (reading_at p n ∷ []) rest before cc) [
        | inl found ↦ found_in n (n - 1) f.0 x before reached (let o = reached.from_one in omega (arith, o)) f.1 f.2 found
        | inr past ↦ absurd (no_request_in_reading (slice_get p.readings n) past.back rest past.later)
      ]

  in_whole : (n : ℕ) (before : List TraceEvent) (rest : List (Option TraceEvent)) → IsReached p n → ¬ (IsLate p n) → has_request (reading_at p 0 ∷ (rounds p (n - 1) ++ reading_at p n ∷ Some Asked ∷ answer_at p n ∷ [])) before rest → IsRequest before
  in_whole n [] rest reached on_time h = absurd (let f = first_is (slice_get p.readings 0) Asked cc in let e = f.2 in cc)
  in_whole n (x ∷ before) rest reached on_time h =
      let f = first_is (slice_get p.readings 0) x cc in
      elim (in_rounds (n - 1) (reading_at p n ∷ Some Asked ∷ answer_at p n ∷ []) rest before cc) [
        | inl found ↦ found_in n (n - 1) f.0 x before reached (let o = reached.from_one in omega (arith, o)) f.1 f.2 found
        | inr past ↦
            let l = in_last (slice_get p.readings n) (answer_in_round p.answers n) past.back rest past.later in
            let same : suc (n - 1) ≡ n = last_before n reached.from_one in
            record {
              start = f.0;
              first = f.1;
              rounds_before = n - 1;
              front = past.front;
              did = past.did;
              moment = l.moment;
              read = subst (λ (k : ℕ). slice_get p.readings k ≡ Some l.moment) (sym same) l.read;
              in_time = subst (λ (k : ℕ). ¬ (IsLate p k)) (sym same) on_time;
              split = after_first x (Reading f.0) before _ f.2 (past.split ∙ ap (λ (ys : List TraceEvent). past.front ++ ys) l.back_is);
            }
      ]

  pub request_of : (e : Ending) → IsEnding p e → (before : List TraceEvent) (rest : List (Option TraceEvent)) → has_request (poll_events p e) before rest → IsRequest before
  request_of TooLong is [] rest h = absurd cc
  request_of TooLong is (x ∷ before) rest h = absurd cc
  request_of OutOfRange is before rest h = absurd (no_request_in_reading (slice_get p.readings 0) before rest h)
  request_of (Late n) is before rest h = in_late n before rest is.0 h
  request_of (Decided n) is before rest h = in_whole n before rest is.0 is.1 h
  request_of (Limited n) is before rest h = in_whole n before rest is.0 is.1 h

  requests_did : (n : ℕ) (front : List TraceEvent) → Did n front → requests_in front ≡ n
  requests_did _ _ nothing = refl
  requests_did _ _ (one_more n front moment answer did read given) =
      requests_in-append front _ ∙ (let e = requests_did n front did in omega (arith, e))

  answers_did : (n : ℕ) (front : List TraceEvent) → Did n front → answers_in front ≡ take n p.answers
  answers_did _ _ nothing = refl
  answers_did _ _ (one_more n front moment answer did read given) =
      answers_in-append front _ ∙ ap (λ (l : List PollAnswer). l ++ answer ∷ []) (answers_did n front did) ∙ sym (take_one_more p.answers n answer given)

  answers_there : (n : ℕ) (front : List TraceEvent) → Did n front → n ≤ length p.answers
  answers_there _ _ nothing = omega arith
  answers_there _ _ (one_more n front moment answer did read given) = let l = slice_get_within p.answers n answer given in omega (arith, l)

  -- what an honest clock shows until a reading after n rounds
  elapsed : (n : ℕ) (front : List TraceEvent) → Did n front → (trace after : List TraceEvent) (start moment : ℤ) → ClockIsHonest trace → trace ≡ Reading start ∷ (front ++ Reading moment ∷ after) → (start +ℤ pos (sleeps_to p n)) ≤ℤ moment
  elapsed _ _ nothing trace after start moment honest is = honest [] [] after start moment is refl
  elapsed _ _ (one_more n front read answer did here given) trace after start moment honest is =
      let d = interval_after p (suc n) in
      let split : trace ≡ Reading start ∷ (front ++ Reading read ∷ Asked ∷ Answered answer ∷ Slept d ∷ Reading moment ∷ after) = is ∙ rw append_assoc refl in
      let before = elapsed n front did trace (Asked ∷ Answered answer ∷ Slept d ∷ Reading moment ∷ after) start read honest split in
      let between = honest (Reading start ∷ front) (Asked ∷ Answered answer ∷ Slept d ∷ []) after read moment split refl in
      omega (arith, ints, before, between)

  short_timeout : TimeoutFits p.timeout → p.timeout < max_nanos
  short_timeout h = omega (arith, h)

  until_request : (before after : List TraceEvent) (trace : List TraceEvent) → TimeoutFits p.timeout → ClockIsHonest trace → trace ≡ before ++ Asked ∷ after → requests_in after ≡ 0 → IsRequest before → RequestsFit p.timeout p.interval trace
  until_request before after trace fits honest is none r =
      let n = r.rounds_before in
      let whole : trace ≡ Reading r.start ∷ (r.front ++ Reading r.moment ∷ Asked ∷ after) = is ∙ rw (r.split, append_assoc) refl in
      let count : requests_in trace ≡ n + 1 =
      ap requests_in whole ∙ requests_in-append r.front (Reading r.moment ∷ Asked ∷ after) ∙ (let a = requests_did n r.front r.did in omega (arith, a, none)) in
      let less : requests_in trace - 1 ≡ n = omega (arith, count) in
      let answers : answers_in trace ≡ take n p.answers ++ answers_in after =
      ap answers_in whole ∙ answers_in-append r.front (Reading r.moment ∷ Asked ∷ after) ∙ ap (λ (l : List PollAnswer). l ++ answers_in after) (answers_did n r.front r.did) in
      let there = answers_there n r.front r.did in
      let enough : n ≤ length (take n p.answers) = rw length-take (omega (arith, there)) in
      let same_taken : take n (take n p.answers ++ answers_in after) ≡ take n p.answers = take-append-le n (take n p.answers) (answers_in after) enough ∙ take-take n n p.answers (omega arith) in
      let slow : slow_downs_to (answers_in trace) n ≡ slow_downs_to p.answers n =
      same_slow_downs (answers_in trace) p.answers n n (omega arith) (ap (take n) answers ∙ same_taken) in
      let passed = elapsed n r.front r.did trace (Asked ∷ after) r.start r.moment honest whole in
      let in_time : ¬ ((r.start +ℤ pos p.timeout) <ℤ r.moment) =
      λ late. r.in_time (record { start = r.start; moment = r.moment; first = r.first; here = r.read; after = late }) in
      let within : sleeps_to p n ≤ p.timeout =
      by_lt_z (r.start +ℤ pos p.timeout) r.moment (λ late. absurd (in_time late)) (λ on_time. omega (arith, ints, passed, on_time)) in
      let small = short_timeout fits in
      let w = waited p n (omega (arith, within, small)) in
      rw (less, slow) (omega (arith, w, within))

fits_of : (p : PollInput) (e : Ending) → IsEnding p e → (before : List TraceEvent) (rest : List (Option TraceEvent)) → has_request (poll_events p e) before rest → TimeoutFits p.timeout
fits_of p TooLong is [] rest h = absurd cc
fits_of p TooLong is (x ∷ before) rest h = absurd cc
fits_of p OutOfRange is before rest h = is.0
fits_of p (Late n) is before rest h = is.0.fits
fits_of p (Decided n) is before rest h = is.0.fits
fits_of p (Limited n) is before rest h = is.0.fits

no_requests : (p : PollInput) (trace : List TraceEvent) → requests_in trace ≡ 0 → RequestsFit p.timeout p.interval trace
no_requests p trace none = let less : requests_in trace - 1 ≡ 0 = omega (arith, none) in rw less (omega arith)

pub requests_are_bounded : RequestsAreBounded
requests_are_bounded p trace t honest =
    elim (last_request trace) [
      | inl none ↦ no_requests p trace none
      | inr l ↦
          let plan : has_request (poll_events p t.ending) l.before (map Some l.after ++ t.rest) = t.is ∙ rw (l.is, map-append, append_assoc) refl in
          until_request p l.before l.after trace (fits_of p t.ending t.is_ending l.before _ plan) honest l.is l.none_after (request_of p t.ending t.is_ending l.before _ plan)
    ]

-- so their number is bounded by the timeout and the interval alone
pub few_requests : (timeout interval : ℕ) (trace : List TraceEvent) → 0 < interval → RequestsFit timeout interval trace → requests_in trace ≤ timeout / interval + 1
few_requests timeout interval trace some fit =
    let waits = requests_in trace - 1 in
    let only : waits * interval ≤ timeout = omega (arith, fit) in
    let few : waits ≤ timeout / interval = le-div waits timeout interval some only in
    omega (arith, few)
