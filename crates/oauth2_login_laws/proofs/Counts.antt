-- How often a login asks and ends: each login that began is used up.
use Rattle.std.proofs.Common.{◌≡◌, ◌≢◌, ℕ, ◌+◌, ◌<◌, ◌≤◌, ◌==◌, List, [], ◌∷◌, ◌++◌, Bool, not, Some, refl, ap, sym, ◌∙◌, arith, ◌⊎◌, inl, inr}
use Rattle.std.specs.List.{Contains, filter}
use Rattle.oauth2_redirect.specs.Login.{LoginView}
use Rattle.oauth2_login_laws.specs.Event.{Event, Began, Asked, Refused, Ignored, Finished, Failed, Dropped, Standing, Waiting, begin, waiting_of, is_other, key, CanHappen, after}
use Rattle.oauth2_login_laws.specs.Run.{IsRun, at_last, one_if, times_begun, times_asked, times_finished, Ends}
use Rattle.oauth2_login_laws.specs.Laws.{EachLoginAsksOnce, EachLoginFinishesOnce, EachStateNamesOneLogin, EndedLoginIsNotUsed}
use Rattle.oauth2_login_laws.proofs.Keys.{equal_self, one_of_same, is_left_out, out_or_none, some_is}
use Rattle.oauth2_login_laws.proofs.Lists.{Has, has, weight, weight_push, weight_filter, weight_out, weight_none}
use Rattle.oauth2_login_laws.proofs.Runs.{parts, each_request_is_its_logins}

module _ (s : List ℕ) where
  abbrev of_login : LoginView → ℕ
  of_login login = one_if s login

  abbrev of_waiting : Waiting → ℕ
  of_waiting w = one_if s w.login

  -- the logins with this state whose redirect, and whose reply, is awaited
  abbrev pub held : Standing → ℕ
  held c = weight of_login c.pending

  abbrev pub sent : Standing → ℕ
  sent c = weight of_waiting c.waiting

  leaves : (t : List ℕ) (xs : List LoginView) (login : LoginView) → Contains xs login → t ≡ key login → weight of_login (filter (λ (x : LoginView). is_other t x) xs) + of_login login ≤ weight of_login xs
  leaves t xs login there is =
      weight_out of_login (λ (x : LoginView). is_other t x) xs login (has xs login there) (is_left_out t login is)

  fewer : (t : List ℕ) (xs : List LoginView) → weight of_login (filter (λ (x : LoginView). is_other t x) xs) ≤ weight of_login xs
  fewer t xs = weight_filter of_login (λ (x : LoginView). is_other t x) xs

  leaves_waiting : (n : ℕ) (xs : List Waiting) (login : LoginView) → Contains xs (waiting_of n login) → weight of_waiting (filter (λ (w : Waiting). not (n == w.number)) xs) + of_login login ≤ weight of_waiting xs
  leaves_waiting n xs login there =
      weight_out of_waiting (λ (w : Waiting). not (n == w.number)) xs (waiting_of n login) (has xs (waiting_of n login) there) (ap not (equal_self n))

  fewer_waiting : (t : List ℕ) (xs : List Waiting) → weight of_waiting (filter (λ (w : Waiting). is_other t w.login) xs) ≤ weight of_waiting xs
  fewer_waiting t xs = weight_filter of_waiting (λ (w : Waiting). is_other t w.login) xs

  -- what an event adds, and what it takes away
  abbrev begins : Event → ℕ
  begins (Began l) = one_if s l
  begins (Asked r l o n q) = 0
  begins (Refused r l) = 0
  begins (Ignored r) = 0
  begins (Finished n l t) = 0
  begins (Failed n l) = 0
  begins (Dropped t) = 0

  abbrev asks : Event → ℕ
  asks (Began l) = 0
  asks (Asked r l o n q) = one_if s l
  asks (Refused r l) = 0
  asks (Ignored r) = 0
  asks (Finished n l t) = 0
  asks (Failed n l) = 0
  asks (Dropped t) = 0

  abbrev finishes : Event → ℕ
  finishes (Began l) = 0
  finishes (Asked r l o n q) = 0
  finishes (Refused r l) = 0
  finishes (Ignored r) = 0
  finishes (Finished n l t) = one_if s l
  finishes (Failed n l) = 0
  finishes (Dropped t) = 0

  abbrev ends : Event → ℕ
  ends (Began l) = 0
  ends (Asked r l o n q) = 0
  ends (Refused r l) = one_if s l
  ends (Ignored r) = 0
  ends (Finished n l t) = one_if s l
  ends (Failed n l) = one_if s l
  ends (Dropped t) = 0

  begun_more : (e : Event) (es : List Event) → times_begun s (e ∷ es) ≡ begins e + times_begun s es
  begun_more (Began l) es = refl
  begun_more (Asked r l o n q) es = omega arith
  begun_more (Refused r l) es = omega arith
  begun_more (Ignored r) es = omega arith
  begun_more (Finished n l t) es = omega arith
  begun_more (Failed n l) es = omega arith
  begun_more (Dropped t) es = omega arith

  asked_more : (e : Event) (es : List Event) → times_asked s (e ∷ es) ≡ asks e + times_asked s es
  asked_more (Began l) es = omega arith
  asked_more (Asked r l o n q) es = refl
  asked_more (Refused r l) es = omega arith
  asked_more (Ignored r) es = omega arith
  asked_more (Finished n l t) es = omega arith
  asked_more (Failed n l) es = omega arith
  asked_more (Dropped t) es = omega arith

  finished_more : (e : Event) (es : List Event) → times_finished s (e ∷ es) ≡ finishes e + times_finished s es
  finished_more (Began l) es = omega arith
  finished_more (Asked r l o n q) es = omega arith
  finished_more (Refused r l) es = omega arith
  finished_more (Ignored r) es = omega arith
  finished_more (Finished n l t) es = refl
  finished_more (Failed n l) es = omega arith
  finished_more (Dropped t) es = omega arith

  -- who asks is held no more
  held_after : (c : Standing) (e : Event) → CanHappen c e → held (after c e) + asks e ≤ held c + begins e
  held_after c (Began l) can = let more = weight_push of_login c.pending l in omega (arith, more)
  held_after c (Asked r l o n q) can = let less = leaves (key l) c.pending l can.0 refl in omega (arith, less)
  held_after c (Refused r l) can = let less = fewer (key l) c.pending in omega (arith, less)
  held_after c (Ignored r) can = omega arith
  held_after c (Finished n l t) can = omega arith
  held_after c (Failed n l) can = omega arith
  held_after c (Dropped t) can = let less = fewer t c.pending in omega (arith, less)

  -- who ends is neither held nor sent any more
  load_after : (c : Standing) (e : Event) → CanHappen c e → held (after c e) + sent (after c e) + ends e ≤ held c + sent c + begins e
  load_after c (Began l) can = let more = weight_push of_login c.pending l in omega (arith, more)
  load_after c (Asked r l o n q) can =
      let less = leaves (key l) c.pending l can.0 refl in
      let more = weight_push of_waiting c.waiting (waiting_of n l) in
      omega (arith, less, more)
  load_after c (Refused r l) can = let less = leaves (key l) c.pending l can refl in omega (arith, less)
  load_after c (Ignored r) can = omega arith
  load_after c (Finished n l t) can = let less = leaves_waiting n c.waiting l can in omega (arith, less)
  load_after c (Failed n l) can = let less = leaves_waiting n c.waiting l can in omega (arith, less)
  load_after c (Dropped t) can =
      let less = fewer t c.pending in
      let fewer_sent = fewer_waiting t c.waiting in
      omega (arith, less, fewer_sent)

  finishing_ends : (e : Event) → finishes e ≤ ends e
  finishing_ends (Began l) = omega arith
  finishing_ends (Asked r l o n q) = omega arith
  finishing_ends (Refused r l) = omega arith
  finishing_ends (Ignored r) = omega arith
  finishing_ends (Finished n l t) = omega arith
  finishing_ends (Failed n l) = omega arith
  finishing_ends (Dropped t) = omega arith

  pub each_asking_began : (c : Standing) (events : List Event) → IsRun c events → times_asked s events ≤ times_begun s events + held c
  each_asking_began c [] run = omega arith
  each_asking_began c (e ∷ es) run =
      let later = each_asking_began (after c e) es run.1 in
      let here = held_after c e run.0 in
      let a = asked_more e es in
      let b = begun_more e es in
      omega (arith, later, here, a, b)

  each_finish_began : (c : Standing) (events : List Event) → IsRun c events → times_finished s events ≤ times_begun s events + (held c + sent c)
  each_finish_began c [] run = omega arith
  each_finish_began c (e ∷ es) run =
      let later = each_finish_began (after c e) es run.1 in
      let here = load_after c e run.0 in
      let f = finished_more e es in
      let b = begun_more e es in
      let end = finishing_ends e in
      omega (arith, later, here, f, b, end)

  load_at_last : (c : Standing) (events : List Event) → IsRun c events → held (at_last c events) + sent (at_last c events) ≤ times_begun s events + (held c + sent c)
  load_at_last c [] run = omega arith
  load_at_last c (e ∷ es) run =
      let later = load_at_last (after c e) es run.1 in
      let here = load_after c e run.0 in
      let b = begun_more e es in
      omega (arith, later, here, b)

  begun_through : (before later : List Event) → times_begun s (before ++ later) ≡ times_begun s before + times_begun s later
  begun_through [] later = omega arith
  begun_through (e ∷ before) later =
      let rest = begun_through before later in
      let whole = begun_more e (before ++ later) in
      let front = begun_more e before in
      omega (arith, rest, whole, front)

  begun_where_had : (events : List Event) (login : LoginView) → key login ≡ s → Has events (Began login) → 1 ≤ times_begun s events
  begun_where_had [] login is there = absurd there
  begun_where_had (e ∷ es) login is (inl here) =
      let one : one_if s login ≡ begins e = ap begins (sym here) in
      let full = one_of_same s login is in
      let b = begun_more e es in
      omega (arith, one, full, b)
  begun_where_had (e ∷ es) login is (inr later) =
      let rest = begun_where_had es login is later in
      let b = begun_more e es in
      omega (arith, rest, b)

  -- two that began with this state are one, if only one did
  only_one : (events : List Event) (login other : LoginView) → key login ≡ s → key other ≡ s → times_begun s events ≤ 1 → Has events (Began login) → Has events (Began other) → other ≡ login
  only_one [] login other is too few a b = absurd a
  only_one (e ∷ es) login other is too few (inl a) (inl b) = let same_event : Began other ≡ Began login = sym b ∙ a in cc
  only_one (e ∷ es) login other is too few (inl a) (inr b) =
      let here : begins e ≡ one_if s login = ap begins a in
      let full = one_of_same s login is in
      let more = begun_more e es in
      let later = begun_where_had es other too b in
      absurd (omega (arith, here, full, more, later, few))
  only_one (e ∷ es) login other is too few (inr a) (inl b) =
      let here : begins e ≡ one_if s other = ap begins b in
      let full = one_of_same s other too in
      let more = begun_more e es in
      let later = begun_where_had es login is a in
      absurd (omega (arith, here, full, more, later, few))
  only_one (e ∷ es) login other is too few (inr a) (inr b) =
      let more = begun_more e es in
      only_one es login other is too (omega (arith, more, few)) a b

  -- where one login with this state began, and it ends, none is held or sent
  nothing_left : (c : Standing) (e : Event) → CanHappen c e → held c + sent c ≤ 1 → Ends e s → held (after c e) + sent (after c e) ≡ 0
  nothing_left c (Began l) can few over = absurd over
  nothing_left c (Asked r l o n q) can few over = absurd over
  nothing_left c (Refused r l) can few over =
      let one = one_of_same s l over in
      let less = load_after c (Refused r l) can in
      omega (arith, one, less, few)
  nothing_left c (Ignored r) can few over = absurd over
  nothing_left c (Finished n l t) can few over =
      let one = one_of_same s l over in
      let less = load_after c (Finished n l t) can in
      omega (arith, one, less, few)
  nothing_left c (Failed n l) can few over =
      let one = one_of_same s l over in
      let less = load_after c (Failed n l) can in
      omega (arith, one, less, few)
  nothing_left c (Dropped t) can few over =
      rw over (
      let a = weight_none of_login (λ (x : LoginView). is_other s x) (λ x. out_or_none s x) c.pending in
      let b = weight_none of_waiting (λ (w : Waiting). is_other s w.login) (λ w. out_or_none s w.login) c.waiting in
      omega (arith, a, b))

pub each_login_asks_once : EachLoginAsksOnce
each_login_asks_once events s run = let paid = each_asking_began s begin events run in omega (arith, paid)

pub each_login_finishes_once : EachLoginFinishesOnce
each_login_finishes_once events s run = let paid = each_finish_began s begin events run in omega (arith, paid)

pub each_state_names_one_login : EachStateNamesOneLogin
each_state_names_one_login before later arrival login other client number request run fresh began told =
    let law = each_request_is_its_logins before later arrival login client number request run in
    let both : Some (key other) ≡ Some (key login) = sym told ∙ law.1.state in
    let same_key : key other ≡ key login = some_is both in
    only_one (key login) before login other refl same_key fresh (has before (Began login) law.0) (has before (Began other) began)

pub ended_login_is_not_used : EndedLoginIsNotUsed
ended_login_is_not_used before later event login run fresh began over =
    let s = key login in
    let cut = parts begin before later event run in
    let whole = begun_through s before (event ∷ later) in
    let rest = begun_more s event later in
    let one = begun_where_had s before login refl (has before (Began login) began) in
    let before_few = load_at_last s begin before cut.2 in
    let none_left = nothing_left s (at_last begin before) event cut.0 (omega (arith, before_few, whole, rest, fresh)) over in
    let asked = each_asking_began s (after (at_last begin before) event) later cut.1 in
    let finished = each_finish_began s (after (at_last begin before) event) later cut.1 in
    (omega (arith, whole, rest, fresh, one, none_left, asked), omega (arith, whole, rest, fresh, one, none_left, finished))
