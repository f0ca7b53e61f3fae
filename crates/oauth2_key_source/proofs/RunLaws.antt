-- A source's requests are apart, and a flood of calls makes one.
use Rattle.std.proofs.Common.{rules, ◌≡◌, List, [], ◌∷◌, ◌++◌, Option, Some, None, Result, Ok, Err, subst, sym, ap, ◌∙◌, refl, inl, inr, ℕ}
use Rattle.std.specs.Prelude.{ℤ, pos, ◌+ℤ◌, int_le, int_lt, Bool, true, false, not, ◌&&◌, ◌||◌, IsTrue, All, IsSomeAnd, option_map, if◌then◌else◌}
use Rattle.std.proofs.lemmas.List.Elements.{All-head, All-tail}
use Rattle.jiff.proofs.SpanFacts.{signed_arith}
use Rattle.jiff_core.specs.declared.timestamp.Timestamp.{Timestamp}
use Rattle.oauth2_keys.specs.declared.json_web_key.ListedKey.{ListedKey}
use Rattle.oauth2_key_source.specs.declared.key_set_error.KeySetError.{KeySetError}
use Rattle.oauth2_key_source.specs.declared.source_error.KeySourceError.{KeySourceError}
use Rattle.oauth2_key_source.specs.declared.source_error.KeySourceError.TheVariants.{Request, Waits}
use Rattle.oauth2_key_source.specs.Request.{KeySetQuery}
use Rattle.oauth2_key_source.specs.Source.{Source, KeptKeys, earlier, keys_found_at, found_at, suffices, is_waiting, is_due, is_given, after_renewal, after_failed_request, IsUntil, Renews, Rests, CallsIf, SourceCalls}
use Rattle.oauth2_key_source.specs.Runs.{SourceCall, AreSince, AreWithin, SourceRuns, EachTwoRequestsAreApart, EachFloodAsksOnce, EachOtherCallSendsNothing, EachEndIsWithinTheWait}

-- ---- moments

-- a moment that comes first stays
stays : (now moment : ℤ) → IsTrue (int_le moment now) → earlier now moment ≡ moment
stays now moment le = search (rules, le)

-- a bound of both is one of the earlier
bounds_earlier : (bound now moment : ℤ) → IsTrue (int_le bound now) → IsTrue (int_le bound moment) → IsTrue (int_le bound (earlier now moment))
bounds_earlier bound now moment here there = search (rules, here, there)

earlier_than_now : (now moment : ℤ) → IsTrue (int_le (earlier now moment) now)
earlier_than_now now moment = search (rules, signed_arith)

-- where no wait holds it back, a call comes at least the wait after a bound
comes_after : (wait : ℕ) (bound now moment : ℤ) → IsTrue (int_le bound moment) → IsTrue (not (int_lt now (moment +ℤ pos wait))) → IsTrue (int_le (bound +ℤ pos wait) now)
comes_after wait bound now moment le free = search (rules, le, free, signed_arith)

same_moment : (moment : ℤ) → IsTrue (int_le moment moment)
same_moment moment = search (rules, signed_arith)

both : (a b : Bool) → IsTrue (a && b) → IsTrue a × IsTrue b
both true true h = (refl, refl)
both true false h = cc
both false b h = cc

is_true : (a : Bool) → IsTrue a → a ≡ true
is_true true h = refl
is_true false h = cc

not_waiting : (a b : Bool) → IsTrue (not a && not b) → IsTrue (not b)
not_waiting true b h = cc
not_waiting false b h = h

not_due : (a b : Bool) → IsTrue b → (not a && not b) ≡ false
not_due true b there = refl
not_due false true there = refl
not_due false false there = cc

-- the wait counts from no earlier than a bound
abbrev IsBounded : ℤ → Option ℤ → Type 0
IsBounded bound None = ⊥
IsBounded bound (Some moment) = IsTrue (int_le bound moment)

bounded_found : (bound now : ℤ) (asked_at : Option ℤ) → IsTrue (int_le bound now) → IsBounded bound asked_at → IsBounded bound (option_map (earlier now) asked_at)
bounded_found bound now None here there = there
bounded_found bound now (Some moment) here there = bounds_earlier bound now moment here there

-- also where the clock is set back to this call
free_after : (wait : ℕ) (bound now moment : ℤ) → IsTrue (int_le bound now) → IsTrue (int_le bound moment) → IsTrue (not (int_lt now (earlier now moment +ℤ pos wait)))
    → IsTrue (int_le (bound +ℤ pos wait) now)
free_after wait bound now moment here there free = search (rules, here, there, free, signed_arith)

due_after : (wait : ℕ) (bound now : ℤ) (asked_at : Option ℤ) → IsTrue (int_le bound now) → IsBounded bound asked_at
    → IsTrue (not (is_waiting wait now (option_map (earlier now) asked_at))) → IsTrue (int_le (bound +ℤ pos wait) now)
due_after wait bound now None here there free = absurd there
due_after wait bound now (Some moment) here there free = free_after wait bound now moment here there free

-- ---- what stays from the moment of a request on

abbrev IsGotBy : ℤ → Option KeptKeys → Type 0
IsGotBy moment None = Unit {0}
IsGotBy moment (Some kept) = IsTrue (int_le kept.got_at moment)

got_when_found : (now : ℤ) (kept : Option KeptKeys) → IsGotBy now (option_map (keys_found_at now) kept)
got_when_found now None = tt
got_when_found now (Some kept) = earlier_than_now now kept.got_at

not_later : (a b c : ℤ) → IsTrue (int_le a b) → IsTrue (int_le b c) → IsTrue (int_le a c)
not_later a b c first second = search (rules, first, second, signed_arith)

same_age : (now moment : ℤ) (kept : Option KeptKeys) → IsGotBy moment kept → IsTrue (int_le moment now) → option_map (keys_found_at now) kept ≡ kept
same_age now moment None got le = refl
same_age now moment (Some kept) got le =
    ap (λ (g : ℤ). Some (record kept { got_at = g })) (stays now kept.got_at (not_later kept.got_at moment now got le))

same_wait : (now moment : ℤ) (asked_at : Option ℤ) → asked_at ≡ Some moment → IsTrue (int_le moment now) → option_map (earlier now) asked_at ≡ asked_at
same_wait now moment asked_at there le = rw there (ap (λ (m : ℤ). Some m) (stays now moment le))

same_found : (source : Source) (now moment : ℤ) → source.asked_at ≡ Some moment → IsGotBy moment source.kept → IsTrue (int_le moment now) → found_at source now ≡ source
same_found source now moment there got le =
    ap (λ (k : Option KeptKeys). record source { kept = k; asked_at = option_map (earlier now) source.asked_at }) (same_age now moment source.kept got le)
    ∙ ap (λ (a : Option ℤ). record source { asked_at = a }) (same_wait now moment source.asked_at there le)

waits_since : (wait : ℕ) (now moment : ℤ) (asked_at : Option ℤ) → asked_at ≡ Some moment → IsTrue (int_lt now (moment +ℤ pos wait)) → IsTrue (is_waiting wait now asked_at)
waits_since wait now moment asked_at there early = rw there early

module _ {RE T C : Type 0} (asks : KeySetQuery → C → Result (List ListedKey) (KeySetError RE T) → C → Type 0) where
  -- ---- one call

  -- the wait stays as it is set
  keeps_wait : (source next : Source) (now : ℤ) (before after : C) (result : Result Unit (KeySourceError RE T)) (is : Bool)
      → CallsIf asks is source now before result after next → next.wait ≡ source.wait
  keeps_wait source next now before after (Ok done) true (keys, made, is) = ap (λ (s : Source). s.wait) is
  keeps_wait source next now before after (Err (Request error)) true (made, is) = ap (λ (s : Source). s.wait) is
  keeps_wait source next now before after (Err (Waits until)) true call = absurd call
  keeps_wait source next now before after result false (rests, same, is) = ap (λ (s : Source). s.wait) is

  -- after a request the wait counts from it
  counts_from : (source next : Source) (now : ℤ) (before after : C) (result : Result Unit (KeySourceError RE T))
      → CallsIf asks true source now before result after next → next.asked_at ≡ Some now
  counts_from source next now before after (Ok done) (keys, made, is) = ap (λ (s : Source). s.asked_at) is
  counts_from source next now before after (Err (Request error)) (made, is) = ap (λ (s : Source). s.asked_at) is
  counts_from source next now before after (Err (Waits until)) call = absurd call

  -- and a call that makes none changes nothing that it finds
  finds : (source next : Source) (now : ℤ) (before after : C) (result : Result Unit (KeySourceError RE T))
      → CallsIf asks false source now before result after next → (after ≡ before) × (next ≡ source)
  finds source next now before after result (rests, same, is) = (same, is)

  still_bounded : (source next : Source) (bound now : ℤ) (before after : C) (result : Result Unit (KeySourceError RE T)) (is : Bool)
      → IsTrue (int_le bound now) → IsBounded bound source.asked_at
      → CallsIf asks is source now before result after next → IsBounded bound next.asked_at
  still_bounded source next bound now before after result true here there call = subst (IsBounded bound) (sym (counts_from source next now before after result call)) here
  still_bounded source next bound now before after result false here there call = subst (λ (s : Source). IsBounded bound s.asked_at) (sym (finds source next now before after result call).1) there

  -- ---- two requests

  -- a request after calls since a bound
  apart : (source kept : Source) (before after : C) (bound : ℤ) (second : SourceCall) (between : List SourceCall)
      → IsBounded bound source.asked_at → AreSince bound (between ++ second ∷ []) → SourceRuns asks source before (between ++ second ∷ []) after kept → IsTrue second.asks
      → IsTrue (int_le (bound +ℤ pos source.wait) second.now)
  apart source kept before after bound second [] there since (flag, run) due =
      due_after source.wait bound second.now source.asked_at (All-head (λ (c : SourceCall). IsTrue (int_le bound c.now)) second [] since) there
      (not_waiting (suffices source.lifetime second.key_id second.now (found_at source second.now).kept) (is_waiting source.wait second.now (found_at source second.now).asked_at) (subst IsTrue flag due))
  apart source kept before after bound second (call ∷ between) there since (flag, (result, middle, next, made, rest)) due =
      let here : IsTrue (int_le bound call.now) = All-head (λ (c : SourceCall). IsTrue (int_le bound c.now)) call (between ++ second ∷ []) since in
      let tail = All-tail (λ (c : SourceCall). IsTrue (int_le bound c.now)) call (between ++ second ∷ []) since in
      let found = found_at source call.now in
      let is = is_due found call.key_id call.now in
      let there' = still_bounded found next bound call.now before middle result is here (bounded_found bound call.now source.asked_at here there) made in
      let wait = keeps_wait found next call.now before middle result is made in
      subst (λ wait. IsTrue (int_le (bound +ℤ pos wait) second.now)) wait (apart next kept middle after bound second between there' tail rest due)

  pub are_apart : EachTwoRequestsAreApart asks
  are_apart source kept before after bound first second between (flag, (result, middle, next, made, rest)) asks_first asks_second since =
      let here : IsTrue (int_le bound first.now) = All-head (λ (c : SourceCall). IsTrue (int_le bound c.now)) first (between ++ second ∷ []) since in
      let tail = All-tail (λ (c : SourceCall). IsTrue (int_le bound c.now)) first (between ++ second ∷ []) since in
      let found = found_at source first.now in
      let made' = subst (λ is. CallsIf asks is found first.now before result middle next) (sym flag ∙ is_true first.asks asks_first) made in
      let there = subst (IsBounded bound) (sym (counts_from found next first.now before middle result made')) here in
      let wait = keeps_wait found next first.now before middle result true made' in
      subst (λ wait. IsTrue (int_le (bound +ℤ pos wait) second.now)) wait (apart next kept middle after bound second between there tail rest asks_second)

  -- ---- a flood

  settled : (source next : Source) (now : ℤ) (before after : C) (result : Result Unit (KeySourceError RE T))
      → CallsIf asks true (found_at source now) now before result after next → (next.asked_at ≡ Some now) × IsGotBy now next.kept
  settled source next now before after (Ok done) (keys, made, is) =
      (ap (λ (s : Source). s.asked_at) is, subst (λ (s : Source). IsGotBy now s.kept) (sym is) (same_moment now))
  settled source next now before after (Err (Request error)) (made, is) =
      (ap (λ (s : Source). s.asked_at) is, subst (λ (s : Source). IsGotBy now s.kept) (sym is) (got_when_found now source.kept))
  settled source next now before after (Err (Waits until)) call = absurd call

  abbrev IsWithin : ℤ → ℕ → SourceCall → Type 0
  IsWithin moment wait call = IsTrue (int_le moment call.now && int_lt call.now (moment +ℤ pos wait))

  quiet_call : (source next : Source) (moment now : ℤ) (key_id : Option (List ℕ)) (before after : C) (result : Result Unit (KeySourceError RE T))
      → source.asked_at ≡ Some moment → IsGotBy moment source.kept → IsTrue (int_le moment now) → IsTrue (int_lt now (moment +ℤ pos source.wait))
      → SourceCalls asks source key_id now before result after next → (after ≡ before) × (next ≡ source)
  quiet_call source next moment now key_id before after result there got le early call =
      let same = same_found source now moment there got le in
      let ours = subst (λ (s : Source). CallsIf asks (is_due s key_id now) s now before result after next) same call in
      let waits = not_due (suffices source.lifetime key_id now source.kept) (is_waiting source.wait now source.asked_at) (waits_since source.wait now moment source.asked_at there early) in
      finds source next now before after result (subst (λ is. CallsIf asks is source now before result after next) waits ours)

  quiet_run : (source kept : Source) (moment : ℤ) (before after : C) (calls : List SourceCall) → source.asked_at ≡ Some moment → IsGotBy moment source.kept
      → AreWithin source.wait moment calls → SourceRuns asks source before calls after kept → (after ≡ before) × (kept ≡ source)
  quiet_run source kept moment before after [] there got within run = run
  quiet_run source kept moment before after (call ∷ calls) there got within (flag, (result, middle, next, made, rest)) =
      let head = All-head (IsWithin moment source.wait) call calls within in
      let tail = All-tail (IsWithin moment source.wait) call calls within in
      let (le, early) = both (int_le moment call.now) (int_lt call.now (moment +ℤ pos source.wait)) head in
      let (same, is) = quiet_call source next moment call.now call.key_id before middle result there got le early made in
      let later = quiet_run source kept moment middle after calls there got tail (subst (λ (s : Source). SourceRuns asks s middle calls after kept) is rest) in
      (later.0 ∙ same, later.1)

  pub asks_once : EachFloodAsksOnce asks
  asks_once source next kept before middle after first calls (flag, (result, there, found, made, (stays_there, is))) due within run =
      let made' = subst (λ is. CallsIf asks is (found_at source first.now) first.now before result there found) (sym flag ∙ is_true first.asks due) made in
      let wait = keeps_wait (found_at source first.now) found first.now before there result true made' in
      let set = settled source found first.now before there result made' in
      let run' = subst (λ (s : Source). SourceRuns asks s middle calls after kept) is run in
      let within' = subst (λ (w : ℕ). AreWithin w first.now calls) (sym wait) within in
      let quiet = quiet_run found kept first.now middle after calls set.0 set.1 within' run' in
      (quiet.0, quiet.1 ∙ sym is)

  -- ---- calls that make no request

  pub sends_nothing : EachOtherCallSendsNothing asks
  sends_nothing source kept before after [] (same, is) none = same
  sends_nothing source kept before after (call ∷ calls) (flag, (result, middle, next, made, rest)) none =
      let off = All-head (λ (c : SourceCall). c.asks ≡ false) call calls none in
      let tail = All-tail (λ (c : SourceCall). c.asks ≡ false) call calls none in
      let found = found_at source call.now in
      let made' = subst (λ is. CallsIf asks is found call.now before result middle next) (sym flag ∙ off) made in
      sends_nothing next kept middle after calls rest tail ∙ (finds found next call.now before middle result made').0

  -- ---- how long it waits

  end_after : (now moment end : ℤ) (wait : ℕ) → end ≡ (earlier now moment +ℤ pos wait) → IsTrue (int_le end (now +ℤ pos wait))
  end_after now moment end wait is = search (rules, is, signed_arith)

  end_of : (wait : ℕ) (now end : ℤ) (asked_at : Option ℤ) → IsSomeAnd (option_map (earlier now) asked_at) (λ from. end ≡ (from +ℤ pos wait)) → IsTrue (int_le end (now +ℤ pos wait))
  end_of wait now end None is = absurd is
  end_of wait now end (Some moment) is = end_after now moment end wait is

  told_end : (source kept : Source) (before after : C) (now : ℤ) (until : Timestamp) (is : Bool)
      → CallsIf asks is (found_at source now) now before (Err (Waits (Some until))) after kept → IsTrue (int_le until.nanosecond (now +ℤ pos source.wait))
  told_end source kept before after now until true call = absurd call
  told_end source kept before after now until false ((held, end), same, is) = end_of source.wait now until.nanosecond source.asked_at end

  pub ends_within : EachEndIsWithinTheWait asks
  ends_within source kept before after key_id now until call = told_end source kept before after now until (is_due (found_at source now) key_id now) call
