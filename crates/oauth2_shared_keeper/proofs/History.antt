-- What the calls so far say of a turn.
use Rattle.std.proofs.Common.{◌≡◌, ℕ, ◌+◌, ◌≤◌, Bool, true, false, nat_lt, if◌then◌else◌, List, [], ◌∷◌, ◌++◌, Option, Some, None, refl, ap, sym, ◌∙◌, subst, arith, append_assoc, ◌⊎◌, inl, inr}
use Rattle.std.proofs.lemmas.Bool.Decides.{eqb_tells}
use Rattle.std.specs.List.{Contains}
use Rattle.std.proofs.lemmas.List.{append-nil}
use Rattle.std.proofs.lemmas.List.Elements.{Contains-append_left, Contains-append_cases, Contains-push, Contains-push_cases}
use Rattle.oauth2_shared_token.specs.declared.renewal.Content.{Content}
use Rattle.oauth2_shared_token.specs.declared.renewal.Content.TheVariants as content
use Rattle.oauth2_shared_token.specs.declared.renewal.StoredValue.{StoredValue}
use Rattle.oauth2_shared_token.specs.declared.renewal.Learnt.{Learnt}
use Rattle.oauth2_shared_token.specs.declared.renewal.Learnt.TheVariants as learnt
use Rattle.oauth2_shared_token.specs.declared.renewal.Phase.{Phase}
use Rattle.oauth2_shared_token.specs.declared.renewal.Phase.TheVariants as phase
use Rattle.oauth2_shared_token.specs.declared.renewal.Step.{Step}
use Rattle.oauth2_shared_token.specs.declared.renewal.Step.TheVariants as step
use Rattle.oauth2_shared_token.specs.declared.renewal.Turn.{Turn}
use Rattle.oauth2_shared_token.specs.Renewal.{turn_of, looked_at, past_or_open, seen_in, read_again, sent_if, next_turn}
use Rattle.oauth2_shared_keeper.specs.declared.renewed.Renewed.{Renewed}
use Rattle.oauth2_shared_keeper.specs.declared.renewed.Renewed.TheVariants.{Kept, Unkept, InUse, LoggedOut, Lost}
use Rattle.oauth2_shared_keeper.specs.declared.renewed.Renewed.TheVariants.{Unanswered, Unclear, Unread, NoNextVersion}
use Rattle.oauth2_shared_keeper.specs.Call.{Request, ToLoad, ToReplace, ToRefresh, Call, Load, Replace, Refresh, request_of, told_by, refreshes_in}
use Rattle.oauth2_shared_keeper.specs.Renewal.{AsksInTurn, asked_by, first_turn, EndsWith, IsEnd}
use Rattle.oauth2_shared_keeper.specs.Laws.{at_rest, WasTaken, new_token_in}
use Rattle.oauth2_shared_keeper.specs.private.Part.{marks_next, looks_again, sends_next}
use Rattle.oauth2_shared_keeper.proofs.Runs.{refreshes_in-append}

-- the one item of a list
pub the_only : {A : Type 0} (x y : A) → Contains (x ∷ []) y → x ≡ y
the_only x y has = elim (Contains-push_cases [] x y has) [ inl none ↦ absurd (omega (arith, none.1)) | inr same ↦ same ]

-- what is no own mark
not_taken : (is_past : Bool) → past_or_open is_past ≡ learnt.Taken → ⊥
not_taken true e = cc
not_taken false e = cc

module _ {T : Type 0} where
  abbrev any_load : Request T
  any_load = ToLoad

  abbrev logged_out : Step T
  logged_out = step.LoggedOut

  -- calls that ask this
  pub asked_load : (call : Call T) → Some any_load ≡ Some (request_of call) → (shown : Option (StoredValue T)) × (call ≡ Load shown)
  asked_load (Load shown) e = (shown, refl)
  asked_load (Replace v c done) e = absurd (let is : Some any_load ≡ Some (ToReplace v c) = e in cc)
  asked_load (Refresh t given) e = absurd (let is : Some any_load ≡ Some (ToRefresh t) = e in cc)

  pub asked_replace : (version : ℕ) (held : Content T) (call : Call T) → Some (ToReplace version held) ≡ Some (request_of call) → (done : Bool) × (call ≡ Replace version held done)
  asked_replace version held (Load shown) e = absurd (let is : Some (ToReplace version held) ≡ Some ToLoad = e in cc)
  asked_replace version held (Replace v c done) e = (done, let is : Some (ToReplace version held) ≡ Some (ToReplace v c) = e in cc)
  asked_replace version held (Refresh t given) e = absurd (let is : Some (ToReplace version held) ≡ Some (ToRefresh t) = e in cc)

  pub asked_refresh : (token : T) (call : Call T) → Some (ToRefresh token) ≡ Some (request_of call) → (given : Option T) × (call ≡ Refresh token given)
  asked_refresh token (Load shown) e = absurd (let is : Some (ToRefresh token) ≡ Some ToLoad = e in cc)
  asked_refresh token (Replace v c done) e = absurd (let is : Some (ToRefresh token) ≡ Some (ToReplace v c) = e in cc)
  asked_refresh token (Refresh t given) e = (given, let is : Some (ToRefresh token) ≡ Some (ToRefresh t) = e in cc)

  -- how many sendings a call more makes
  more : (before : List (Call T)) (call : Call T) (n k : ℕ) → refreshes_in before ≡ n → refreshes_in (call ∷ []) ≡ k → refreshes_in (before ++ call ∷ []) ≡ n + k
  more before call n k was here = rw (refreshes_in-append before (call ∷ []), was, here) refl

  -- only this token was given
  abbrev pub IsOnlyGiven : List (Call T) → T → Type 0
  IsOnlyGiven calls new = (t g : T) → Contains calls (Refresh t (Some g)) → g ≡ new

  -- the server gave this token
  abbrev pub WasGiven : List (Call T) → T → Type 0
  WasGiven calls new = (t : T) × Contains calls (Refresh t (Some new))

  -- what is not sent gives nothing
  pub none_given : (calls : List (Call T)) (t : T) (given : Option T) → refreshes_in calls ≡ 0 → Contains calls (Refresh t given) → ⊥
  none_given [] t given none has = absurd (omega (arith, has.1))
  none_given (Load shown ∷ calls) t given none has =
      elim (Contains-append_cases (Load shown ∷ []) calls (Refresh t given) has) [
        | inl here ↦ (let is = the_only (Load shown) (Refresh t given) here in cc)
        | inr there ↦ none_given calls t given none there
      ]
  none_given (Replace v c done ∷ calls) t given none has =
      elim (Contains-append_cases (Replace v c done ∷ []) calls (Refresh t given) has) [
        | inl here ↦ (let is = the_only (Replace v c done) (Refresh t given) here in cc)
        | inr there ↦ none_given calls t given none there
      ]
  none_given (Refresh u given ∷ calls) t other none has = absurd (omega (arith, none))

  module _ (name : ℕ) where
    -- where a renewal of this name can be after these calls, and what they say
    pub data State (before : List (Call T)) (turn : Turn T) : Type 0 where
      looks : turn ≡ first_turn → refreshes_in before ≡ 0 → State before turn
      marks : (v : ℕ) (t : T) → turn ≡ marks_next v t → refreshes_in before ≡ 0 → Contains before (Load (Some (at_rest v t))) → State before turn
      seeks : (v : ℕ) (t : T) → turn ≡ looks_again v t → refreshes_in before ≡ 0 → Contains before (Load (Some (at_rest v t)))
          → Contains before (Replace v (content.Marked t name) false) → State before turn
      sends : (v : ℕ) (t : T) → turn ≡ sends_next v t → refreshes_in before ≡ 0 → Contains before (Load (Some (at_rest v t))) → WasTaken name before v t → State before turn
      keeps : (v : ℕ) (new : T) (s : Step T) → turn ≡ turn_of (phase.Keeping v new) s
          → asked_by name (phase.Keeping v new) s ≡ Some (ToReplace (v + 1) (content.AtRest new)) → refreshes_in before ≡ 1 → IsOnlyGiven before new → WasGiven before new → State before turn
      ends : turn.phase ≡ phase.Over → asked_by name turn.phase turn.step ≡ None → refreshes_in before ≤ 1
          → (turn.step ≡ step.End) ⊎ (refreshes_in before ≡ 0) → State before turn

    -- what one more call makes of it
    abbrev Next : List (Call T) → Turn T → Call T → Type 0
    Next before turn call = State (before ++ call ∷ []) (next_turn name turn.phase (told_by call))

    looked_state : (before : List (Call T)) (v : ℕ) (c : Content T) → refreshes_in before ≡ 0 → Contains before (Load (Some (record { version = v; content = c }))) → State before (looked_at v c)
    looked_state before v (content.AtRest t) none has = marks v t refl none has
    looked_state before v (content.Marked t other) none has = ends refl refl (omega arith) (inr none)
    looked_state before v content.Empty none has = ends refl refl (omega arith) (inr none)

    looks_step : (before : List (Call T)) (shown : Option (StoredValue T)) → refreshes_in before ≡ 0 → Next before first_turn (Load shown)
    looks_step before None none = looks refl (more before (Load None) 0 0 none refl)
    looks_step before (Some p) none =
        looked_state (before ++ Load (Some p) ∷ []) p.version p.content (more before (Load (Some p)) 0 0 none refl) (Contains-push before (Load (Some p)))

    marks_step : (before : List (Call T)) (v : ℕ) (t : T) (done : Bool) → refreshes_in before ≡ 0 → Contains before (Load (Some (at_rest v t)))
        → Next before (marks_next v t) (Replace v (content.Marked t name) done)
    marks_step before v t true none rests =
        let call : Call T = Replace v (content.Marked t name) true in
        sends v t refl (more before call 0 0 none refl) (Contains-append_left before (call ∷ []) _ rests) (inl (Contains-push before call))
    marks_step before v t false none rests =
        let call : Call T = Replace v (content.Marked t name) false in
        seeks v t refl (more before call 0 0 none refl) (Contains-append_left before (call ∷ []) _ rests) (Contains-push before call)

    own : (is_past : Bool) (c : Content T) → seen_in name is_past c ≡ learnt.Taken → (t : T) × (c ≡ content.Marked t name)
    own is_past (content.AtRest t) e = absurd (not_taken is_past e)
    own is_past (content.Marked t other) e =
        elim (eqb_tells other name) [
          | inl mine ↦ (t, ap (λ (k : ℕ). content.Marked t k) mine.1)
          | inr theirs ↦ absurd (not_taken is_past (ap (λ (b : Bool). if b then learnt.Taken else past_or_open is_past) (sym theirs.0) ∙ e))
        ]
    own is_past content.Empty e = absurd (not_taken is_past e)

    module _ (before : List (Call T)) (v : ℕ) (t : T) (none : refreshes_in before ≡ 0) (rests : Contains before (Load (Some (at_rest v t))))
        (asked : Contains before (Replace v (content.Marked t name) false)) where
      learnt_state : (l : Learnt) → (l ≡ learnt.Taken → WasTaken name before v t) → State before (sent_if v t l)
      learnt_state learnt.Taken taken = sends v t refl none rests (taken refl)
      learnt_state learnt.Lost taken = ends refl refl (omega arith) (inl refl)
      learnt_state learnt.Open taken = seeks v t refl none rests asked

    seeks_step : (before : List (Call T)) (v : ℕ) (t : T) (shown : Option (StoredValue T)) → refreshes_in before ≡ 0 → Contains before (Load (Some (at_rest v t)))
        → Contains before (Replace v (content.Marked t name) false) → Next before (looks_again v t) (Load shown)
    seeks_step before v t None none rests asked =
        seeks v t refl (more before (Load None) 0 0 none refl) (Contains-append_left before (Load None ∷ []) _ rests) (Contains-append_left before (Load None ∷ []) _ asked)
    seeks_step before v t (Some p) none rests asked =
        let call : Call T = Load (Some p) in
        let asked_still = Contains-append_left before (call ∷ []) _ asked in
        learnt_state (before ++ call ∷ []) v t (more before call 0 0 none refl) (Contains-append_left before (call ∷ []) _ rests) asked_still (read_again name v p)
        (λ e. inr (asked_still, (p, Contains-push before call, own (nat_lt v p.version) p.content e)))

    sends_step : (before : List (Call T)) (v : ℕ) (t : T) (given : Option T) → refreshes_in before ≡ 0 → Next before (sends_next v t) (Refresh t given)
    sends_step before v t (Some new) none =
        let call : Call T = Refresh t (Some new) in
        keeps v new (step.Keep v new) refl refl (more before call 0 1 none refl) (λ u g has. elim (Contains-push_cases before call (Refresh u (Some g)) has) [
          | inl earlier ↦ absurd (none_given before u (Some g) none earlier)
          | inr here ↦ (let is : Refresh t (Some new) ≡ Refresh u (Some g) = here in cc)
        ])
        (t, Contains-push before call)
    sends_step before v t None none =
        let n = more before (Refresh t None) 0 1 none refl in
        ends refl refl (omega arith) (inl refl)

    keeps_step : (before : List (Call T)) (v : ℕ) (new : T) (s : Step T) (done : Bool) → refreshes_in before ≡ 1 → IsOnlyGiven before new → WasGiven before new
        → Next before (turn_of (phase.Keeping v new) s) (Replace (v + 1) (content.AtRest new) done)
    keeps_step before v new s true one only given =
        let n = more before (Replace (v + 1) (content.AtRest new) true) 1 0 one refl in
        ends refl refl (omega arith) (inl refl)
    keeps_step before v new s false one only given =
        let call : Call T = Replace (v + 1) (content.AtRest new) false in
        keeps v new step.Repeat refl refl (more before call 1 0 one refl) (λ u g has. elim (Contains-push_cases before call (Refresh u (Some g)) has) [
          | inl earlier ↦ only u g earlier
          | inr here ↦ absurd (let is : Replace (v + 1) (content.AtRest new) false ≡ Refresh u (Some g) = here in cc)
        ])
        (given.0, Contains-append_left before (call ∷ []) _ given.1)

    module _ (before : List (Call T)) (turn : Turn T) (call : Call T) (asked : asked_by name turn.phase turn.step ≡ Some (request_of call)) where
      -- at a turn that is known
      abbrev At : Turn T → Type 0
      At known = (turn ≡ known) × (asked_by name known.phase known.step ≡ Some (request_of call))

      asked_at : (known : Turn T) → turn ≡ known → asked_by name known.phase known.step ≡ Some (request_of call)
      asked_at known is = subst (λ (t : Turn T). asked_by name t.phase t.step ≡ Some (request_of call)) is asked

      at : (known : Turn T) (made : Call T) → turn ≡ known → call ≡ made → Next before known made → Next before turn call
      at known made is same next =
          subst (λ (t : Turn T). Next before t call) (sym is) (subst (λ (c : Call T). Next before known c) (sym same) next)

      step_more : State before turn → Next before turn call
      step_more (looks is none) =
          let k = asked_load call (asked_at first_turn is) in
          at first_turn (Load k.0) is k.1 (looks_step before k.0 none)
      step_more (marks v t is none rests) =
          let k = asked_replace v (content.Marked t name) call (asked_at (marks_next v t) is) in
          at (marks_next v t) (Replace v (content.Marked t name) k.0) is k.1 (marks_step before v t k.0 none rests)
      step_more (seeks v t is none rests was_asked) =
          let k = asked_load call (asked_at (looks_again v t) is) in
          at (looks_again v t) (Load k.0) is k.1 (seeks_step before v t k.0 none rests was_asked)
      step_more (sends v t is none rests taken) =
          let k = asked_refresh t call (asked_at (sends_next v t) is) in
          at (sends_next v t) (Refresh t k.0) is k.1 (sends_step before v t k.0 none)
      step_more (keeps v new s is again one only given) =
          let k = asked_replace (v + 1) (content.AtRest new) call (sym again ∙ asked_at (turn_of (phase.Keeping v new) s) is) in
          at (turn_of (phase.Keeping v new) s) (Replace (v + 1) (content.AtRest new) k.0) is k.1 (keeps_step before v new s k.0 one only given)
      step_more (ends is asks_none few how) = absurd (let e : None ≡ Some (request_of call) = sym asks_none ∙ asked in cc)

    state_run : (before xs : List (Call T)) (turn last : Turn T) → State before turn → AsksInTurn name turn xs last → State (before ++ xs) last
    state_run before [] turn last st is =
        subst (λ (l : List (Call T)). State l last) (sym (append-nil before)) (subst (λ (t : Turn T). State before t) is st)
    state_run before (x ∷ xs) turn last st asks =
        subst (λ (l : List (Call T)). State l last) (append_assoc before (x ∷ []) xs)
        (state_run (before ++ x ∷ []) xs (next_turn name turn.phase (told_by x)) last (step_more before turn x asks.0 st) asks.1)

    -- where a renewal is after its calls
    pub state_after : (xs : List (Call T)) (last : Turn T) → AsksInTurn name first_turn xs last → State xs last
    state_after xs last asks = state_run [] xs first_turn last (looks refl refl) asks

    -- calls before others
    pub asks_split : (from to : Turn T) (xs ys : List (Call T)) → AsksInTurn name from (xs ++ ys) to → (mid : Turn T) × AsksInTurn name from xs mid × AsksInTurn name mid ys to
    asks_split from to [] ys asks = (from, refl, asks)
    asks_split from to (x ∷ xs) ys asks =
        let k = asks_split (next_turn name from.phase (told_by x)) to xs ys asks.1 in (k.0, (asks.0, k.1), k.2)

    -- a renewal sends at most once
    pub sends_few : (xs : List (Call T)) (last : Turn T) → State xs last → refreshes_in xs ≤ 1
    sends_few xs last (looks is none) = omega arith
    sends_few xs last (marks v t is none rests) = omega arith
    sends_few xs last (seeks v t is none rests asked) = omega arith
    sends_few xs last (sends v t is none rests taken) = omega arith
    sends_few xs last (keeps v new s is again one only given) = omega arith
    sends_few xs last (ends is asks_none few how) = few

    -- what is sent is that of a mark that was taken
    at_sending : (before : List (Call T)) (turn : Turn T) (token : T) → State before turn → asked_by name turn.phase turn.step ≡ Some (ToRefresh token)
        → (version : ℕ) × Contains before (Load (Some (at_rest version token))) × WasTaken name before version token
    at_sending before turn token (looks is none) asked =
        absurd (let e : Some any_load ≡ Some (ToRefresh token) = subst (λ (t : Turn T). asked_by name t.phase t.step ≡ Some (ToRefresh token)) is asked in cc)
    at_sending before turn token (marks v t is none rests) asked =
        absurd (let e : Some (ToReplace v (content.Marked t name)) ≡ Some (ToRefresh token) = subst (λ (k : Turn T). asked_by name k.phase k.step ≡ Some (ToRefresh token)) is asked in cc)
    at_sending before turn token (seeks v t is none rests was_asked) asked =
        absurd (let e : Some any_load ≡ Some (ToRefresh token) = subst (λ (k : Turn T). asked_by name k.phase k.step ≡ Some (ToRefresh token)) is asked in cc)
    at_sending before turn token (sends v t is none rests taken) asked =
        let e : Some (ToRefresh t) ≡ Some (ToRefresh token) = subst (λ (k : Turn T). asked_by name k.phase k.step ≡ Some (ToRefresh token)) is asked in
        let same : t ≡ token = cc in (
          v,
          subst (λ (k : T). Contains before (Load (Some (at_rest v k)))) same rests,
          subst (λ (k : T). WasTaken name before v k) same taken,
        )
    at_sending before turn token (keeps v new s is again one only given) asked =
        absurd (
        let e : Some (ToReplace (v + 1) (content.AtRest new)) ≡ Some (ToRefresh token) = sym again ∙ subst (λ (k : Turn T). asked_by name k.phase k.step ≡ Some (ToRefresh token)) is asked in
        cc)
    at_sending before turn token (ends is asks_none few how) asked = absurd (let e : None ≡ Some (ToRefresh token) = sym asks_none ∙ asked in cc)

    pub sending_is_marked : (before after : List (Call T)) (token : T) (given : Option T) (last : Turn T) → AsksInTurn name first_turn (before ++ Refresh token given ∷ after) last
        → (version : ℕ) × Contains before (Load (Some (at_rest version token))) × WasTaken name before version token
    sending_is_marked before after token given last asks =
        let k = asks_split first_turn last before (Refresh token given ∷ after) asks in
        at_sending before k.0 token (state_after before k.0 k.1) k.2.0

    -- in these phases nothing was given yet
    abbrev pub is_early : Phase T → Bool
    is_early phase.Looking = true
    is_early (phase.Asking v t) = true
    is_early (phase.Leaving v t) = true
    is_early (phase.Sending v) = true
    is_early (phase.Keeping v new) = false
    is_early (phase.Returning v t) = true
    is_early phase.Over = false

    pub unsent_early : (before : List (Call T)) (turn : Turn T) → State before turn → is_early turn.phase ≡ true → refreshes_in before ≡ 0
    unsent_early before turn (looks is none) early = none
    unsent_early before turn (marks v t is none rests) early = none
    unsent_early before turn (seeks v t is none rests asked) early = none
    unsent_early before turn (sends v t is none rests taken) early = none
    unsent_early before turn (keeps v new s is again one only given) early =
        absurd (let late : is_early turn.phase ≡ false = ap (λ (k : Turn T). is_early k.phase) is in cc)
    unsent_early before turn (ends is asks_none few how) early = absurd (let late : is_early turn.phase ≡ false = ap is_early is in cc)

    -- it is over, and not because of what was sent
    pub unsent_over : (before : List (Call T)) (turn : Turn T) → State before turn → turn.phase ≡ phase.Over → (turn.step ≡ step.End → ⊥) → refreshes_in before ≡ 0
    unsent_over before turn (looks is none) over other = none
    unsent_over before turn (marks v t is none rests) over other = none
    unsent_over before turn (seeks v t is none rests asked) over other = none
    unsent_over before turn (sends v t is none rests taken) over other = none
    unsent_over before turn (keeps v new s is again one only given) over other =
        absurd (let e : phase.Keeping v new ≡ phase.Over = sym (ap (λ (k : Turn T). k.phase) is) ∙ over in cc)
    unsent_over before turn (ends is asks_none few (inl end)) over other = absurd (other end)
    unsent_over before turn (ends is asks_none few (inr none)) over other = none

    -- while a token is kept, no other was given
    pub only_kept : (before : List (Call T)) (turn : Turn T) (v : ℕ) (held : T) → State before turn → turn.phase ≡ phase.Keeping v held → IsOnlyGiven before held
    only_kept before turn v held (looks is none) in_phase t g has = absurd (none_given before t (Some g) none has)
    only_kept before turn v held (marks w u is none rests) in_phase t g has = absurd (none_given before t (Some g) none has)
    only_kept before turn v held (seeks w u is none rests asked) in_phase t g has = absurd (none_given before t (Some g) none has)
    only_kept before turn v held (sends w u is none rests taken) in_phase t g has = absurd (none_given before t (Some g) none has)
    only_kept before turn v held (keeps w new s is again one only given) in_phase t g has =
        let e : phase.Keeping w new ≡ phase.Keeping v held = sym (ap (λ (k : Turn T). k.phase) is) ∙ in_phase in
        let same : new ≡ held = cc in
        only t g has ∙ same
    only_kept before turn v held (ends is asks_none few how) in_phase t g has = absurd (let e : phase.Over ≡ phase.Keeping v held = sym is ∙ in_phase in cc)

    -- it was given by the server
    was_given : (before : List (Call T)) (turn : Turn T) (v : ℕ) (held : T) → State before turn → turn.phase ≡ phase.Keeping v held → WasGiven before held
    was_given before turn v held (looks is none) in_phase =
        absurd (let e : phase.Looking ≡ phase.Keeping v held = sym (ap (λ (k : Turn T). k.phase) is) ∙ in_phase in cc)
    was_given before turn v held (marks w u is none rests) in_phase =
        absurd (let e : phase.Asking w u ≡ phase.Keeping v held = sym (ap (λ (k : Turn T). k.phase) is) ∙ in_phase in cc)
    was_given before turn v held (seeks w u is none rests asked) in_phase =
        absurd (let e : phase.Asking w u ≡ phase.Keeping v held = sym (ap (λ (k : Turn T). k.phase) is) ∙ in_phase in cc)
    was_given before turn v held (sends w u is none rests taken) in_phase =
        absurd (let e : phase.Sending w ≡ phase.Keeping v held = sym (ap (λ (k : Turn T). k.phase) is) ∙ in_phase in cc)
    was_given before turn v held (keeps w new s is again one only given) in_phase =
        let e : phase.Keeping w new ≡ phase.Keeping v held = sym (ap (λ (k : Turn T). k.phase) is) ∙ in_phase in
        let same : new ≡ held = cc in
        subst (λ (k : T). WasGiven before k) same given
    was_given before turn v held (ends is asks_none few how) in_phase = absurd (let e : phase.Over ≡ phase.Keeping v held = sym is ∙ in_phase in cc)

    -- a token that a renewal kept was given in it, and the store said that it keeps it
    pub kept_was_given : (calls : List (Call T)) (v : ℕ) (held : T) → EndsWith name first_turn calls (phase.Keeping v held) (Replace (v + 1) (content.AtRest held) true)
        → ((t : T) × Contains calls (Refresh t (Some held))) × ((version : ℕ) × Contains calls (Replace version (content.AtRest held) true))
    kept_was_given calls v held e =
        let call : Call T = Replace (v + 1) (content.AtRest held) true in
        let given = was_given e.before e.turn v held (state_after e.before e.turn e.asks) e.in_phase in (
          (
            given.0,
            subst (λ (l : List (Call T)). Contains l (Refresh given.0 (Some held))) (sym e.is) (Contains-append_left e.before (call ∷ []) _ given.1),
          ),
          (v + 1, subst (λ (l : List (Call T)). Contains l call) (sym e.is) (Contains-push e.before call)),
        )

    module _ (calls : List (Call T)) (last : Turn T) (asks : AsksInTurn name first_turn calls last) (t new : T) (has : Contains calls (Refresh t (Some new))) where
      -- the last call is none that gave a token
      at_last : (p : Phase T) (call : Call T) (e : EndsWith name first_turn calls p call) → (call ≡ Refresh t (Some new) → ⊥) → Contains e.before (Refresh t (Some new))
      at_last p call e other =
          elim (Contains-push_cases e.before call (Refresh t (Some new)) (subst (λ (l : List (Call T)). Contains l (Refresh t (Some new))) e.is has)) [
            | inl earlier ↦ earlier
            | inr here ↦ absurd (other here)
          ]

      not_early : (p : Phase T) (call : Call T) → EndsWith name first_turn calls p call → (call ≡ Refresh t (Some new) → ⊥) → is_early p ≡ true → ⊥
      not_early p call e other early =
          none_given e.before t (Some new)
          (unsent_early e.before e.turn (state_after e.before e.turn e.asks) (ap is_early e.in_phase ∙ early))
          (at_last p call e other)

      not_unsent : refreshes_in calls ≡ 0 → ⊥
      not_unsent none = none_given calls t (Some new) none has

      early_at_last : (known : Turn T) → last ≡ known → is_early known.phase ≡ true → ⊥
      early_at_last known is early = not_unsent (unsent_early calls last (state_after calls last asks) (ap (λ (k : Turn T). is_early k.phase) is ∙ early))

      over_at_last : (s : Step T) → last ≡ turn_of phase.Over s → (s ≡ step.End → ⊥) → ⊥
      over_at_last s is other =
          not_unsent (unsent_over calls last (state_after calls last asks) (ap (λ (k : Turn T). k.phase) is) (λ e. other (sym (ap (λ (k : Turn T). k.step) is) ∙ e)))

      pub handed_over : {E : Type 0} (loads replacements : ℕ) (result : Renewed T E) → IsEnd name first_turn loads replacements calls last result → new_token_in result ≡ Some new
      handed_over loads replacements (Kept held) (v, is, e) =
          let earlier = at_last _ _ e (λ h. let k : Replace (v + 1) (content.AtRest held) true ≡ Refresh t (Some new) = h in cc) in
          ap Some (sym (only_kept e.before e.turn v held (state_after e.before e.turn e.asks) e.in_phase t new earlier))
      handed_over loads replacements (Unkept marked held) (v, m, is, count) =
          ap Some (sym (only_kept calls last v held (state_after calls last asks) (ap (λ (k : Turn T). k.phase) is) t new has))
      handed_over loads replacements (InUse other held) is = absurd (over_at_last (step.InUse other held) is (λ e. let k : step.InUse other held ≡ step.End = e in cc))
      handed_over loads replacements LoggedOut is = absurd (over_at_last step.LoggedOut is (λ e. let k : logged_out ≡ step.End = e in cc))
      handed_over loads replacements Lost (v, u, p, is, e) = absurd (not_early _ _ e (λ h. let k : Load (Some p) ≡ Refresh t (Some new) = h in cc) refl)
      handed_over loads replacements (Unanswered marked u error) (v, m, is, e) = absurd (not_early _ _ e (λ h. let k : Refresh u None ≡ Refresh t (Some new) = h in cc) refl)
      handed_over loads replacements (Unclear marked u) (v, m, is, count) = absurd (early_at_last (looks_again v u) is refl)
      handed_over loads replacements Unread (is, count) = absurd (early_at_last first_turn is refl)
      handed_over loads replacements (NoNextVersion u) (v, m, is) = absurd (early_at_last (marks_next v u) is refl)
