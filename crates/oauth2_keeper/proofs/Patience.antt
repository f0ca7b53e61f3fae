-- A patient keeper's calls are its keeper's, and after a failed request it makes none.
use Rattle.std.proofs.Common.{rules, ◌≡◌, List, [], ◌∷◌, map, Option, Some, None, Result, Ok, Err, subst, sym, ap, ◌∙◌, refl, inl, inr, ℕ}
use Rattle.std.specs.Prelude.{ℤ, pos, ◌+ℤ◌, int_le, int_lt, Bool, true, false, not, ◌&&◌, IsTrue, All, ◌⊎◌, IsSome, IsSomeAnd, option_map, if◌then◌else◌}
use Rattle.std.proofs.lemmas.List.Elements.{All-nil, All-cons, All-head, All-tail}
use Rattle.jiff.proofs.SpanFacts.{signed_arith}
use Rattle.oauth2_wire.specs.declared.content_type.ReplyRule.{ReplyRule}
use Rattle.oauth2_wire.specs.declared.error.RequestTokenError.{RequestTokenError}
use Rattle.oauth2_wire.specs.Request.{RequestView}
use Rattle.oauth2_keeper.specs.declared.patient_keeper.PatientError.{PatientError}
use Rattle.oauth2_keeper.specs.declared.patient_keeper.PatientError.TheVariants.{Request, Waits, OtherTokenType}
use Rattle.oauth2_keeper.specs.Keeper.{AcceptedToken, Keeper, Given, quiet, accepted, failed, is_good, is_good_if_any, kept_after, KeeperCalls}
use Rattle.oauth2_keeper.specs.Patience.{Patient, PatientCall, is_usable_if_any, usable_part, without_other_type, waits_from, is_waiting_for, is_held_back, held_back, lasts, counts, after_call, failed_call, other_type_call, free_moments, AreWithinTheWait, UsableCalls, PatientCalls, PatientRuns, UsableRuns, EachPatientRunIsARun, EachRunOfAnyTypeIsARun, EachTokenIsUsable, EachFailureIsWaitedFor, EachSetBackIsWaitedFor, EachOtherTypeIsWaitedFor, EachEndIsWithinTheWait, EachWaitEnds}
use Rattle.oauth2_keeper.specs.Runs.{Call, Runs}
use Rattle.oauth2_keeper.specs.TokenTypes.{is_understood}
use Rattle.oauth2_keeper.specs.private.Settled.{SettlesByType}

-- ---- the moment from which a call waits

stays : (now failed_at : ℤ) → IsTrue (int_le failed_at now) → waits_from now failed_at ≡ failed_at
stays now failed_at later = search (rules, later)

not_after_call : (now failed_at : ℤ) → IsTrue (int_le (waits_from now failed_at) now)
not_after_call now failed_at = search (rules, signed_arith)

not_after : (now failed_at bound : ℤ) → IsTrue (int_le failed_at bound) → IsTrue (int_le (waits_from now failed_at) bound)
not_after now failed_at bound le = search (rules, le, signed_arith)

both_not_after : (now from failed_at : ℤ) → IsTrue (int_le from failed_at) → IsTrue (int_le (waits_from now from) (waits_from now failed_at))
both_not_after now from failed_at le = search (rules, le, signed_arith)

still_waits : (now failed_at : ℤ) (wait : ℕ) → IsTrue (int_le failed_at now && int_lt now (failed_at +ℤ pos wait)) → IsTrue (is_waiting_for wait now (Some failed_at))
still_waits now failed_at wait within = search (rules, within)

waits_for_later : (now from failed_at : ℤ) (wait : ℕ) → IsTrue (int_le from failed_at) → IsTrue (is_waiting_for wait now (Some from)) → IsTrue (is_waiting_for wait now (Some failed_at))
waits_for_later now from failed_at wait le waits = search (rules, le, waits, signed_arith)

comes_within : (now failed_at bound : ℤ) (wait : ℕ) → IsTrue (int_le failed_at bound) → IsTrue (is_waiting_for wait now (Some failed_at)) → IsTrue (int_lt now (bound +ℤ pos wait))
comes_within now failed_at bound wait le waits = search (rules, le, waits, signed_arith)

ends_within : (now failed_at end : ℤ) (wait : ℕ) → end ≡ (waits_from now failed_at +ℤ pos wait) → IsTrue (int_le end (now +ℤ pos wait))
ends_within now failed_at end wait is = search (rules, is, signed_arith)

-- what is held back waits
waits_if_held : (good waits : Bool) → IsTrue (not good && waits) → IsTrue waits
waits_if_held true waits held = cc
waits_if_held false waits held = held

not_held : (held : Bool) → held ≡ false → IsTrue held → ⊥
not_held held free is = cc

not_held_if : (held other : Bool) → held ≡ false → IsTrue (held && other) → ⊥
not_held_if false other free is = cc
not_held_if true other free is = cc

is_held_if : (held other : Bool) → IsTrue (held && other) → held ≡ true
is_held_if true other is = refl
is_held_if false other is = cc

if_counted : (counted : Bool) (begun before : Option ℤ) → IsTrue counted → (if counted then begun else before) ≡ begun
if_counted true begun before is = refl
if_counted false begun before is = cc

-- ---- a token that the caller can use

-- the abbreviation of the types of tokens
abbrev Types : Type 0
Types = Option (List (List ℕ))

part_of_usable : (types : Types) (keeper : Keeper) → IsTrue (is_usable_if_any types keeper.token) → usable_part types keeper ≡ keeper
part_of_usable types keeper is = rw is refl

usable_by : (usable : Bool) (types : Types) (keeper : Keeper) → is_usable_if_any types keeper.token ≡ usable
    → IsTrue (is_usable_if_any types (if usable then keeper else record keeper { token = None }).token)
usable_by true types keeper is = is
usable_by false types keeper is = refl

part_is_usable : (types : Types) (keeper : Keeper) → IsTrue (is_usable_if_any types (usable_part types keeper).token)
part_is_usable types keeper = usable_by (is_usable_if_any types keeper.token) types keeper refl

any_is_usable : (token : Option AcceptedToken) → IsTrue (is_usable_if_any None token)
any_is_usable None = refl
any_is_usable (Some token) = refl

-- a keeper that has no token of another type
abbrev IsUsable : Patient → Type 0
IsUsable patient = IsTrue (is_usable_if_any patient.token_types patient.keeper.token)

same_if_usable : (patient : Patient) → IsUsable patient → without_other_type patient ≡ patient
same_if_usable patient is = ap (λ (k : Keeper). record patient { keeper = k }) (part_of_usable patient.token_types patient.keeper is)

without_is_usable : (patient : Patient) → IsUsable (without_other_type patient)
without_is_usable patient = part_is_usable patient.token_types patient.keeper

good_there : (margin : ℕ) (now : ℤ) (token : Option AcceptedToken) → IsTrue (is_good_if_any margin now token) → IsSome token
good_there margin now None good = cc
good_there margin now (Some token) good = refl

lasting_there : (held until_end : Bool) (margin : ℕ) (now : ℤ) (token : Option AcceptedToken) → IsTrue (held && (until_end && is_good_if_any margin now token)) → IsSome token
lasting_there true true margin now token good = good_there margin now token good
lasting_there true false margin now token good = cc
lasting_there false until_end margin now token good = cc

there_if_any : (types : Types) (token : Option AcceptedToken) → IsTrue (is_usable_if_any types token) → IsSome token
    → IsSomeAnd token (λ token. IsTrue (is_understood types token.token_type))
there_if_any types None is there = cc
there_if_any types (Some token) is there = is

module _ {D T RE C : Type 0} (asks : ReplyRule → (List ℕ → RequestView → Type 0) → List ℕ → C → Result D (RequestTokenError RE T) → C → Type 0) (told : D → Given) (asked : RE → Option ℕ) where
  pub by_success : (patient kept : Patient) (now : ℤ) (before after : C) (first keeper : Keeper) (done : Unit) (result : Result Unit (PatientError RE T)) → is_held_back patient now ≡ false → first ≡ patient.keeper
      → KeeperCalls asks told first now before (Ok done) after keeper → SettlesByType (record patient { keeper = keeper }) now (is_good patient.keeper now) result kept
      → UsableCalls asks told asked patient now before result after kept
  by_success patient kept now before after first keeper done (Ok end) free same calls (usable, is) =
      let ours = subst (λ k. KeeperCalls asks told k now before (Ok tt) after keeper) same calls in
      let same_keeper : keeper ≡ kept.keeper = sym (ap (λ (p : Patient). p.keeper) is) in
      inl (
        free,
        subst (λ (k : Keeper). KeeperCalls asks told patient.keeper now before (Ok tt) after k) same_keeper ours,
        subst (λ (k : Keeper). IsTrue (is_usable_if_any patient.token_types k.token)) same_keeper usable,
        is ∙ ap (λ (k : Keeper). after_call patient now k) same_keeper,
      )
  by_success patient kept now before after first keeper done (Err OtherTokenType) free same calls (other, is) =
      (free, (keeper, subst (λ k. KeeperCalls asks told k now before (Ok tt) after keeper) same calls, other, is))
  by_success patient kept now before after first keeper done (Err (Request error)) free same calls is = absurd is
  by_success patient kept now before after first keeper done (Err (Waits until)) free same calls is = absurd is

  pub by_fault : (patient kept : Patient) (now : ℤ) (before after : C) (first keeper : Keeper) (error : RequestTokenError RE T) → is_held_back patient now ≡ false → first ≡ patient.keeper
      → KeeperCalls asks told first now before (Err error) after keeper → keeper ≡ patient.keeper → kept ≡ failed_call asked patient now error
      → UsableCalls asks told asked patient now before (Err (Request error)) after kept
  by_fault patient kept now before after first keeper error free same calls back is =
      let ours = subst (λ k. KeeperCalls asks told k now before (Err error) after keeper) same calls in
      (free, subst (λ k. KeeperCalls asks told patient.keeper now before (Err error) after k) back ours, is)

  -- ---- what a call leaves

  -- the types that the caller can use stay, and no token of another type is left
  abbrev LeavesUsable : Patient → Patient → Type 0
  LeavesUsable patient kept = (kept.token_types ≡ patient.token_types) × IsUsable kept

  leaves : (patient kept : Patient) (now : ℤ) (before after : C) (result : Result Unit (PatientError RE T)) → IsUsable patient
      → UsableCalls asks told asked patient now before result after kept → LeavesUsable patient kept
  leaves patient kept now before after (Ok done) is (inl (free, made, usable, kept_is)) =
      let types : kept.token_types ≡ patient.token_types = ap (λ (p : Patient). p.token_types) kept_is in
      (types, subst (λ (names : Types). IsTrue (is_usable_if_any names kept.keeper.token)) (sym types) usable)
  leaves patient kept now before after (Ok done) is (inr (held, same, kept_is)) = subst (LeavesUsable patient) (sym kept_is) (refl, is)
  leaves patient kept now before after (Err OtherTokenType) is (free, (got, made, other, kept_is)) = subst (LeavesUsable patient) (sym kept_is) (refl, refl)
  leaves patient kept now before after (Err (Request error)) is (free, made, kept_is) = subst (LeavesUsable patient) (sym kept_is) (refl, is)
  leaves patient kept now before after (Err (Waits until)) is (held, told_end, same, kept_is) = subst (LeavesUsable patient) (sym kept_is) (refl, is)

  -- the same of a call before which a token of another type is forgotten
  leaves_all : (patient kept : Patient) (now : ℤ) (before after : C) (result : Result Unit (PatientError RE T))
      → PatientCalls asks told asked patient now before result after kept → LeavesUsable patient kept
  leaves_all patient kept now before after result made = leaves (without_other_type patient) kept now before after result (without_is_usable patient) made

  run_types : (patient kept : Patient) (before after : C) (calls : List PatientCall) → PatientRuns asks told asked patient before calls after kept → kept.token_types ≡ patient.token_types
  run_types patient kept before after [] run = ap (λ (p : Patient). p.token_types) run.1
  run_types patient kept before after (call ∷ calls) (flag, (result, middle, next, made, rest)) =
      run_types next kept middle after calls rest ∙ (leaves_all patient next call.now before middle result made).0

  -- a call of the keeper without an error leaves a token
  token_there : (keeper kept : Keeper) (now : ℤ) (before after : C) → KeeperCalls asks told keeper now before (Ok tt) after kept → IsSome kept.token
  token_there keeper kept now before after (quiet, (good, answer, same), is) = subst (λ (k : Keeper). IsSome k.token) (sym is) (good_there keeper.margin now keeper.token good)
  token_there keeper kept now before after (accepted given, made, is) = subst (λ (k : Keeper). IsSome k.token) (sym is) refl
  token_there keeper kept now before after (failed, (stale, (error, answer, asks_for)), is) = cc

  usable_there : (patient kept : Patient) (now : ℤ) (before after : C) → IsUsable patient → UsableCalls asks told asked patient now before (Ok tt) after kept → IsSome kept.keeper.token
  usable_there patient kept now before after is (inl (free, made, usable, kept_is)) = token_there patient.keeper kept.keeper now before after made
  usable_there patient kept now before after is (inr (held, same, kept_is)) =
      subst (λ (p : Patient). IsSome p.keeper.token) (sym kept_is) (lasting_there (is_held_back patient now) patient.until_end 0 now patient.keeper.token held)

  pub is_usable : EachTokenIsUsable asks told asked
  is_usable patient later kept before middle after calls now run made =
      let left = leaves_all later kept now middle after (Ok tt) made in
      let types : kept.token_types ≡ patient.token_types = left.0 ∙ run_types patient later before middle calls run in
      subst (λ (names : Types). IsSomeAnd kept.keeper.token (λ token. IsTrue (is_understood names token.token_type))) types
      (there_if_any kept.token_types kept.keeper.token left.1 (usable_there (without_other_type later) kept now middle after (without_is_usable later) made))

  -- one call, and those after it
  abbrev IsOwnRun : Types → Keeper → C → List PatientCall → C → Keeper → Type 0
  IsOwnRun types keeper before calls after kept = (own : List Call) × (map (λ call. call.now) own ≡ free_moments calls) × UsableRuns asks told asked types keeper before own after kept

  -- a call of the keeper
  free_call : (types : Types) (first next kept : Keeper) (call : PatientCall) (calls : List PatientCall) (before middle after : C) (result : Result Unit (RequestTokenError RE T)) (got : Keeper)
      → call.held ≡ false → KeeperCalls asks told first call.now before result middle got → next ≡ usable_part types got → IsOwnRun types next middle calls after kept
      → IsOwnRun types first before (call ∷ calls) after kept
  free_call types first next kept call calls before middle after result got free made same (own, moments, run) =
      let made_call : Call = record { now = call.now; outcome = made.0 } in
      let from : next ≡ usable_part types (kept_after first call.now made.0) = same ∙ ap (usable_part types) made.2 in
      (made_call ∷ own, rw free (ap (λ (l : List ℤ). call.now ∷ l) moments), (result, middle, made.1, subst (λ k. UsableRuns asks told asked types k middle own after kept) from run))

  -- a call that is held back
  held_call : (types : Types) (first next kept : Keeper) (call : PatientCall) (calls : List PatientCall) (before middle after : C)
      → call.held ≡ true → middle ≡ before → next ≡ first → IsOwnRun types next middle calls after kept
      → IsOwnRun types first before (call ∷ calls) after kept
  held_call types first next kept call calls before middle after held stays same (own, moments, run) =
      (own, rw held moments, subst (λ k. UsableRuns asks told asked types k before own after kept) same (subst (λ m. UsableRuns asks told asked types next m own after kept) stays run))

  one_call : (patient next : Patient) (kept : Keeper) (call : PatientCall) (calls : List PatientCall) (before middle after : C) (result : Result Unit (PatientError RE T)) → IsUsable patient
      → call.held ≡ is_held_back patient call.now → UsableCalls asks told asked patient call.now before result middle next
      → IsOwnRun patient.token_types next.keeper middle calls after kept → IsOwnRun patient.token_types patient.keeper before (call ∷ calls) after kept
  one_call patient next kept call calls before middle after (Ok done) ours flag (inl (free, made, usable, is)) rest =
      free_call patient.token_types patient.keeper next.keeper kept call calls before middle after (Ok tt) next.keeper (flag ∙ free) made (sym (part_of_usable patient.token_types next.keeper usable)) rest
  one_call patient next kept call calls before middle after (Ok done) ours flag (inr (held, stays, is)) rest =
      held_call patient.token_types patient.keeper next.keeper kept call calls before middle after (flag ∙ is_held_if (is_held_back patient call.now) (lasts patient call.now) held) stays (ap (λ (p : Patient). p.keeper) is) rest
  one_call patient next kept call calls before middle after (Err OtherTokenType) ours flag (free, (got, made, other, is)) rest =
      free_call patient.token_types patient.keeper next.keeper kept call calls before middle after (Ok tt) got (flag ∙ free) made (ap (λ (p : Patient). p.keeper) is ∙ rw other refl) rest
  one_call patient next kept call calls before middle after (Err (Request error)) ours flag (free, made, is) rest =
      free_call patient.token_types patient.keeper next.keeper kept call calls before middle after (Err error) patient.keeper (flag ∙ free) made
      (ap (λ (p : Patient). p.keeper) is ∙ sym (part_of_usable patient.token_types patient.keeper ours)) rest
  one_call patient next kept call calls before middle after (Err (Waits until)) ours flag (held, told_end, stays, is) rest =
      held_call patient.token_types patient.keeper next.keeper kept call calls before middle after (flag ∙ is_held_if (is_held_back patient call.now) (not (lasts patient call.now)) held) stays (ap (λ (p : Patient). p.keeper) is) rest

  pub is_a_run : EachPatientRunIsARun asks told asked
  is_a_run patient kept before after [] run = ([], refl, (run.0, ap (λ (p : Patient). (without_other_type p).keeper) run.1))
  is_a_run patient kept before after (call ∷ calls) (flag, (result, middle, next, made, rest)) =
      let left = leaves_all patient next call.now before middle result made in
      let later : IsOwnRun next.token_types (usable_part next.token_types next.keeper) middle calls after (without_other_type kept).keeper = is_a_run next kept middle after calls rest in
      let plain = subst (λ (k : Keeper). IsOwnRun next.token_types k middle calls after (without_other_type kept).keeper) (part_of_usable next.token_types next.keeper left.1) later in
      one_call (without_other_type patient) next (without_other_type kept).keeper call calls before middle after result (without_is_usable patient) flag made
      (subst (λ (names : Types). IsOwnRun names next.keeper middle calls after (without_other_type kept).keeper) left.0 plain)

  -- for any type nothing is forgotten
  any_run : (keeper kept : Keeper) (before after : C) (own : List Call) → UsableRuns asks told asked None keeper before own after kept → Runs asks told keeper before own after kept
  any_run keeper kept before after [] run = run
  any_run keeper kept before after (call ∷ own) (result, middle, made, rest) =
      let next = kept_after keeper call.now call.outcome in
      (result, middle, made, any_run next kept middle after own (subst (λ (k : Keeper). UsableRuns asks told asked None k middle own after kept) (part_of_usable None next (any_is_usable next.token)) rest))

  pub any_is_a_run : EachRunOfAnyTypeIsARun asks told asked
  any_is_a_run patient kept before after calls run any =
      let (own, moments, ours) = is_a_run patient kept before after calls run in
      let kept_any : kept.token_types ≡ None = run_types patient kept before after calls run ∙ any in
      let from : (without_other_type patient).keeper ≡ patient.keeper = rw any (part_of_usable None patient.keeper (any_is_usable patient.keeper.token)) in
      let to : (without_other_type kept).keeper ≡ kept.keeper = rw kept_any (part_of_usable None kept.keeper (any_is_usable kept.keeper.token)) in
      let of_any = subst (λ (names : Types). UsableRuns asks told asked names (without_other_type patient).keeper before own after (without_other_type kept).keeper) any ours in
      let first = subst (λ (k : Keeper). UsableRuns asks told asked None k before own after (without_other_type kept).keeper) from of_any in
      (own, moments, any_run patient.keeper kept.keeper before after own (subst (λ (k : Keeper). UsableRuns asks told asked None patient.keeper before own after k) to first))

  -- ---- calls that are held back

  -- a call while it waits: the kept token is good, or the call is held back
  quiet_call : (patient next : Patient) (now : ℤ) (before middle : C) (result : Result Unit (PatientError RE T)) → IsUsable patient → IsTrue (is_waiting_for patient.wait now patient.failed_at)
      → UsableCalls asks told asked patient now before result middle next → (middle ≡ before) × ((next ≡ patient) ⊎ (next ≡ held_back patient now))
  quiet_call patient next now before middle (Ok done) ours waits (inl (free, (quiet, (good, answer, same), kept), usable, is)) = (same, inl (search rules))
  quiet_call patient next now before middle (Ok done) ours waits (inl (free, (accepted given, (stale, answer, asked), kept), usable, is)) = search rules
  quiet_call patient next now before middle (Ok done) ours waits (inl (free, (failed, (stale, asked), kept), usable, is)) = search rules
  quiet_call patient next now before middle (Ok done) ours waits (inr (handed_out, same, kept)) = (same, inr kept)
  quiet_call patient next now before middle (Err OtherTokenType) ours waits (free, (got, (quiet, (good, answer, same), kept), other, is)) =
      absurd (not_held (is_usable_if_any patient.token_types got.token) other (subst (λ (k : Keeper). IsTrue (is_usable_if_any patient.token_types k.token)) (sym kept) ours))
  quiet_call patient next now before middle (Err OtherTokenType) ours waits (free, (got, (accepted given, (stale, answer, asked), kept), other, is)) = search rules
  quiet_call patient next now before middle (Err OtherTokenType) ours waits (free, (got, (failed, (stale, asked), kept), other, is)) = search rules
  quiet_call patient next now before middle (Err (Request error)) ours waits (free, (quiet, (good, answer, same), kept), is) = search rules
  quiet_call patient next now before middle (Err (Request error)) ours waits (free, (accepted given, (stale, answer, asked), kept), is) = search rules
  quiet_call patient next now before middle (Err (Request error)) ours waits (free, (failed, (stale, asked), kept), is) = search rules
  quiet_call patient next now before middle (Err (Waits until)) ours waits is = (is.2, inr is.3)

  -- from the moment of the failed request on, nothing changes
  back_again : (patient : Patient) (now failed_at : ℤ) → patient.failed_at ≡ Some failed_at → IsTrue (int_le failed_at now) → held_back patient now ≡ patient
  back_again patient now failed_at there later = rw (there, stays now failed_at later) refl

  unchanged : (patient next : Patient) (now failed_at : ℤ) → patient.failed_at ≡ Some failed_at → IsTrue (int_le failed_at now)
      → (next ≡ patient) ⊎ (next ≡ held_back patient now) → next ≡ patient
  unchanged patient next now failed_at there later (inl same) = same
  unchanged patient next now failed_at there later (inr is) = is ∙ back_again patient now failed_at there later

  abbrev IsWithin : ℤ → ℕ → PatientCall → Type 0
  IsWithin moment wait call = IsTrue (int_le moment call.now && int_lt call.now (moment +ℤ pos wait))

  -- a call of a keeper that has no token of another type
  usable_call : (patient next : Patient) (now : ℤ) (before middle : C) (result : Result Unit (PatientError RE T)) → IsUsable patient
      → PatientCalls asks told asked patient now before result middle next → UsableCalls asks told asked patient now before result middle next
  usable_call patient next now before middle result ours made = subst (λ (p : Patient). UsableCalls asks told asked p now before result middle next) (same_if_usable patient ours) made

  quiet_run : (patient kept : Patient) (failed_at : ℤ) (before after : C) (calls : List PatientCall) → IsUsable patient → patient.failed_at ≡ Some failed_at
      → All (IsWithin failed_at patient.wait) calls → PatientRuns asks told asked patient before calls after kept → (after ≡ before) × (kept ≡ patient)
  quiet_run patient kept failed_at before after [] ours there early run = run
  quiet_run patient kept failed_at before after (call ∷ calls) ours there early (flag, (result, middle, next, made, rest)) =
      let head : IsWithin failed_at patient.wait call = All-head (IsWithin failed_at patient.wait) call calls early in
      let tail = All-tail (IsWithin failed_at patient.wait) call calls early in
      let waits : IsTrue (is_waiting_for patient.wait call.now patient.failed_at) = rw there (still_waits call.now failed_at patient.wait head) in
      let first = quiet_call patient next call.now before middle result ours waits (usable_call patient next call.now before middle result ours made) in
      let same = unchanged patient next call.now failed_at there (is_held_if (int_le failed_at call.now) (int_lt call.now (failed_at +ℤ pos patient.wait)) head) first.1 in
      let later = quiet_run patient kept failed_at middle after calls ours there tail (subst (λ (p : Patient). PatientRuns asks told asked p middle calls after kept) same rest) in
      (later.0 ∙ first.0, later.1)

  -- a fault that counts begins the wait
  pub begins : (patient later : Patient) (moment : ℤ) (error : RequestTokenError RE T) → IsTrue (counts error) → later ≡ failed_call asked patient moment error
      → later.failed_at ≡ Some moment
  begins patient later moment error sent is = ap (λ (p : Patient). p.failed_at) is ∙ if_counted (counts error) (Some moment) patient.failed_at sent

  pub waited_for : EachFailureIsWaitedFor asks told asked
  waited_for patient later kept before middle after moment error calls made sent early run =
      quiet_run later kept moment middle after calls (leaves_all patient later moment before middle (Err (Request error)) made).1
      (begins (without_other_type patient) later moment error sent made.2) early run

  pub other_type_waited_for : EachOtherTypeIsWaitedFor asks told asked
  other_type_waited_for patient later kept before middle after moment calls made early run =
      let (free, (got, own, other, is)) = made in
      quiet_run later kept moment middle after calls (leaves_all patient later moment before middle (Err OtherTokenType) made).1
      (ap (λ (p : Patient). p.failed_at) is) early run

  -- where the clock is set back, the moment from which it waits is never before the calls' own
  next_moment : (patient next : Patient) (now from failed_at : ℤ) → patient.failed_at ≡ Some failed_at → IsTrue (int_le from failed_at)
      → (next ≡ patient) ⊎ (next ≡ held_back patient now)
      → (later : ℤ) × (next ≡ record patient { failed_at = Some later }) × IsTrue (int_le (waits_from now from) later)
  next_moment patient next now from failed_at there le (inl same) =
      (failed_at, same ∙ ap (λ (o : Option ℤ). record patient { failed_at = o }) there, not_after now from failed_at le)
  next_moment patient next now from failed_at there le (inr is) =
      (waits_from now failed_at, is ∙ rw there refl, both_not_after now from failed_at le)

  set_back_run : (patient kept : Patient) (from failed_at : ℤ) (before after : C) (calls : List PatientCall) → IsUsable patient → patient.failed_at ≡ Some failed_at → IsTrue (int_le from failed_at)
      → AreWithinTheWait patient.wait from calls → PatientRuns asks told asked patient before calls after kept → (after ≡ before) × (kept.keeper ≡ patient.keeper)
  set_back_run patient kept from failed_at before after [] ours there le early run = (run.0, ap (λ (p : Patient). p.keeper) run.1)
  set_back_run patient kept from failed_at before after (call ∷ calls) ours there le (early, tail) (flag, (result, middle, next, made, rest)) =
      let waits : IsTrue (is_waiting_for patient.wait call.now patient.failed_at) = rw there (waits_for_later call.now from failed_at patient.wait le early) in
      let first = quiet_call patient next call.now before middle result ours waits (usable_call patient next call.now before middle result ours made) in
      let noted = next_moment patient next call.now from failed_at there le first.1 in
      let run' = subst (λ (p : Patient). PatientRuns asks told asked p middle calls after kept) noted.1 rest in
      let later = set_back_run (record patient { failed_at = Some noted.0 }) kept (waits_from call.now from) noted.0 middle after calls ours refl noted.2 tail run' in
      (later.0 ∙ first.0, later.1)

  same_moment : (moment : ℤ) → IsTrue (int_le moment moment)
  same_moment moment = search (rules, signed_arith)

  pub set_back : EachSetBackIsWaitedFor asks told asked
  set_back patient later kept before middle after moment error calls made sent early run =
      set_back_run later kept moment moment middle after calls (leaves_all patient later moment before middle (Err (Request error)) made).1
      (begins (without_other_type patient) later moment error sent made.2) (same_moment moment) early run

  -- ---- how long it waits

  -- a call that is held back
  kept_back : (patient next : Patient) (now : ℤ) (before middle : C) (result : Result Unit (PatientError RE T)) → IsTrue (is_held_back patient now)
      → UsableCalls asks told asked patient now before result middle next → next ≡ held_back patient now
  kept_back patient next now before middle (Ok done) held (inl (free, made, usable, is)) = absurd (not_held (is_held_back patient now) free held)
  kept_back patient next now before middle (Ok done) held (inr (handed_out, same, is)) = is
  kept_back patient next now before middle (Err OtherTokenType) held (free, made) = absurd (not_held (is_held_back patient now) free held)
  kept_back patient next now before middle (Err (Request error)) held (free, made, is) = absurd (not_held (is_held_back patient now) free held)
  kept_back patient next now before middle (Err (Waits until)) held is = is.3

  abbrev ComesWithin : ℤ → ℕ → PatientCall → Type 0
  ComesWithin bound wait call = IsTrue (int_lt call.now (bound +ℤ pos wait))

  held_run : (patient kept : Patient) (failed_at bound : ℤ) (before after : C) (calls : List PatientCall) → patient.failed_at ≡ Some failed_at → IsTrue (int_le failed_at bound)
      → PatientRuns asks told asked patient before calls after kept → All (λ call. IsTrue call.held) calls → All (ComesWithin bound patient.wait) calls
  held_run patient kept failed_at bound before after [] there le run held = All-nil (ComesWithin bound patient.wait)
  held_run patient kept failed_at bound before after (call ∷ calls) there le (flag, (result, middle, next, made, rest)) held =
      let ours = without_other_type patient in
      let is_held : IsTrue (is_held_back ours call.now) = sym flag ∙ All-head (λ (call : PatientCall). IsTrue call.held) call calls held in
      let waits = subst (λ o. IsTrue (is_waiting_for patient.wait call.now o)) there (waits_if_held (is_good ours.keeper call.now) (is_waiting_for patient.wait call.now patient.failed_at) is_held) in
      let noted : next ≡ record ours { failed_at = Some (waits_from call.now failed_at) } = kept_back ours next call.now before middle result is_held made ∙ rw there refl in
      let run' = subst (λ (p : Patient). PatientRuns asks told asked p middle calls after kept) noted rest in
      let tail = All-tail (λ (call : PatientCall). IsTrue call.held) call calls held in
      All-cons (ComesWithin bound patient.wait) call calls (comes_within call.now failed_at bound patient.wait le waits)
      (held_run (record ours { failed_at = Some (waits_from call.now failed_at) }) kept (waits_from call.now failed_at) bound middle after calls refl (not_after call.now failed_at bound le) run' tail)

  from_first : (patient kept : Patient) (before after : C) (first : PatientCall) (calls : List PatientCall) (failed_at : Option ℤ) → patient.failed_at ≡ failed_at
      → PatientRuns asks told asked patient before (first ∷ calls) after kept → All (λ call. IsTrue call.held) (first ∷ calls) → All (ComesWithin first.now patient.wait) calls
  from_first patient kept before after first calls None there (flag, run) held =
      let ours = without_other_type patient in
      let is_held : IsTrue (is_held_back ours first.now) = sym flag ∙ All-head (λ (call : PatientCall). IsTrue call.held) first calls held in
      let waits : IsTrue false = subst (λ o. IsTrue (is_waiting_for patient.wait first.now o)) there (waits_if_held (is_good ours.keeper first.now) (is_waiting_for patient.wait first.now patient.failed_at) is_held) in
      cc
  from_first patient kept before after first calls (Some failed_at) there (flag, (result, middle, next, made, rest)) held =
      let ours = without_other_type patient in
      let is_held : IsTrue (is_held_back ours first.now) = sym flag ∙ All-head (λ (call : PatientCall). IsTrue call.held) first calls held in
      let noted : next ≡ record ours { failed_at = Some (waits_from first.now failed_at) } = kept_back ours next first.now before middle result is_held made ∙ rw there refl in
      let run' = subst (λ (p : Patient). PatientRuns asks told asked p middle calls after kept) noted rest in
      let tail = All-tail (λ (call : PatientCall). IsTrue call.held) first calls held in
      held_run (record ours { failed_at = Some (waits_from first.now failed_at) }) kept (waits_from first.now failed_at) first.now middle after calls refl (not_after_call first.now failed_at) run' tail

  pub wait_ends : EachWaitEnds asks told asked
  wait_ends patient kept before after first calls run held = from_first patient kept before after first calls patient.failed_at refl run held

  end_from : (now end : ℤ) (wait : ℕ) (failed_at : Option ℤ) → IsSomeAnd (option_map (waits_from now) failed_at) (λ from. end ≡ (from +ℤ pos wait))
      → IsTrue (int_le end (now +ℤ pos wait))
  end_from now end wait None is = absurd is
  end_from now end wait (Some failed_at) is = ends_within now failed_at end wait is

  pub end_within : EachEndIsWithinTheWait asks told asked
  end_within patient kept before after now until (held, is_until, same, is) =
      end_from now until.nanosecond patient.wait patient.failed_at
      (subst (λ (p : Patient). IsSomeAnd p.failed_at (λ from. until.nanosecond ≡ (from +ℤ pos p.wait))) is is_until)
