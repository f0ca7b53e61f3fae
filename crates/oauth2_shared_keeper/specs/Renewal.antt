-- One renewal: the calls that `next_turn` of `oauth2_shared_token` asks for, and how it ends.
use Rattle.std.specs.Prelude.{◌≡◌, ℕ, ◌+◌, ◌^◌, ◌≤◌, true, List, [], ◌∷◌, ◌++◌, Option, Some, None}
use Rattle.oauth2_shared_token.specs.declared.renewal.Content.TheVariants as content
use Rattle.oauth2_shared_token.specs.declared.renewal.StoredValue.{StoredValue}
use Rattle.oauth2_shared_token.specs.declared.renewal.Phase.{Phase}
use Rattle.oauth2_shared_token.specs.declared.renewal.Phase.TheVariants as phase
use Rattle.oauth2_shared_token.specs.declared.renewal.Step.{Step}
use Rattle.oauth2_shared_token.specs.declared.renewal.Step.TheVariants as step
use Rattle.oauth2_shared_token.specs.declared.renewal.Turn.{Turn}
use Rattle.oauth2_shared_token.specs.Renewal.{turn_of, next_turn}
use Rattle.oauth2_shared_keeper.specs.declared.limits.Limits.{Limits}
use Rattle.oauth2_shared_keeper.specs.declared.renewed.Renewed.{Renewed}
use Rattle.oauth2_shared_keeper.specs.declared.renewed.Renewed.TheVariants.{Kept, Unkept, InUse, LoggedOut, Lost}
use Rattle.oauth2_shared_keeper.specs.declared.renewed.Renewed.TheVariants.{Unanswered, Unclear, Unread, NoNextVersion}
use Rattle.oauth2_shared_keeper.specs.Call.{Request, ToLoad, ToReplace, ToRefresh, Call, Load, Replace, Refresh}
use Rattle.oauth2_shared_keeper.specs.Call.{request_of, told_by, loads_in, replacements_in}

-- what the step `Repeat` asks for: the last request, as the phase keeps it
abbrev pub asked_again : {T : Type 0} → Phase T → Option (Request T)
asked_again phase.Looking = None
asked_again (phase.Asking version token) = None
asked_again (phase.Leaving version token) = None
asked_again (phase.Sending version) = None
asked_again (phase.Keeping version new) = Some (ToReplace (version + 1) (content.AtRest new))
asked_again (phase.Returning version token) = Some (ToReplace (version + 1) (content.AtRest token))
asked_again phase.Over = None

-- what the renewal of this name asks for in this step
abbrev pub asked_by : {T : Type 0} → ℕ → Phase T → Step T → Option (Request T)
asked_by name phase step.Look = Some ToLoad
asked_by name phase (step.Mark version token) = Some (ToReplace version (content.Marked token name))
asked_by name phase (step.Send version token) = Some (ToRefresh token)
asked_by name phase (step.Keep version new) = Some (ToReplace (version + 1) (content.AtRest new))
asked_by name phase (step.GiveBack version token) =
    Some (ToReplace (version + 1) (content.AtRest token))
asked_by name phase step.Repeat = asked_again phase
asked_by name phase (step.InUse other token) = None
asked_by name phase step.LoggedOut = None
asked_by name phase step.End = None

-- from one turn to another the renewal of this name makes exactly these calls: each is what it asks for in
-- its turn, and what the call tells leads to the next turn
abbrev pub AsksInTurn : {T : Type 0} → ℕ → Turn T → List (Call T) → Turn T → Type 0
AsksInTurn name turn [] last = turn ≡ last
AsksInTurn name turn (call ∷ calls) last =
    (asked_by name turn.phase turn.step ≡ Some (request_of call))
    × AsksInTurn name (next_turn name turn.phase (told_by call)) calls last

-- a renewal looks first
abbrev pub first_turn : {T : Type 0} → Turn T
first_turn = turn_of phase.Looking step.Look

-- the last of these calls, and the phase in which it was made
pub record EndsWith {T : Type 0} (name : ℕ) (from : Turn T) (calls : List (Call T)) (phase : Phase T) (call : Call T) : Type 0 where
  pub before : List (Call T)
  pub turn : Turn T
  pub asks : AsksInTurn name from before turn
  pub in_phase : turn.phase ≡ phase
  pub is : calls ≡ before ++ call ∷ []

-- the renewal is over
abbrev pub over : {T : Type 0} → Turn T
over = turn_of phase.Over step.End

module _ {T E : Type 0} (name : ℕ) (from : Turn T) (loads replacements : ℕ) (calls : List (Call T)) (last : Turn T) where
  -- how a renewal with these limits ends, whose calls led from one turn to another; a mark on a version
  -- stands under the next version
  abbrev pub IsEnd : Renewed T E → Type 0
  IsEnd (Kept new) =
      (version : ℕ) × (last ≡ over)
      × EndsWith name from calls (phase.Keeping version new)
      (Replace (version + 1) (content.AtRest new) true)
  IsEnd (Unkept marked new) =
      (version : ℕ) × (marked ≡ version + 1) × (last ≡ turn_of (phase.Keeping version new) step.Repeat)
      × (replacements_in calls ≡ replacements)
  IsEnd (InUse other token) = last ≡ turn_of phase.Over (step.InUse other token)
  IsEnd LoggedOut = last ≡ turn_of phase.Over step.LoggedOut
  IsEnd Lost =
      (version : ℕ) × (token : T) × (p : StoredValue T) × (last ≡ over)
      × EndsWith name from calls (phase.Asking version token) (Load (Some p))
  IsEnd (Unanswered marked token error) =
      (version : ℕ) × (marked ≡ version + 1) × (last ≡ over)
      × EndsWith name from calls (phase.Sending version) (Refresh token None)
  IsEnd (Unclear marked token) =
      (version : ℕ) × (marked ≡ version + 1) × (last ≡ turn_of (phase.Asking version token) step.Look)
      × (loads_in calls ≡ loads)
  IsEnd Unread = (last ≡ first_turn) × (loads_in calls ≡ loads)
  IsEnd (NoNextVersion token) =
      (version : ℕ) × (version + 1 ≡ 2 ^ 64) × (last ≡ turn_of (phase.Asking version token) (step.Mark version token))

-- from this turn on, the renewal of this name makes these calls and ends so
pub record Renews {T E : Type 0} (name : ℕ) (from : Turn T) (loads replacements : ℕ) (calls : List (Call T)) (result : Renewed T E) : Type 0 where
  pub last : Turn T
  pub asks : AsksInTurn name from calls last
  pub end : IsEnd name from loads replacements calls last result
  pub few_loads : loads_in calls ≤ loads
  pub few_replacements : replacements_in calls ≤ replacements

-- a whole renewal: it asks for its mark once, and to keep a token once and as often again as it may
abbrev pub IsRenewal : {T E : Type 0} → ℕ → Limits → List (Call T) → Renewed T E → Type 0
IsRenewal name limits calls result =
    Renews name first_turn limits.loads (limits.repeats + 2) calls result

-- the token and the error, if there was no new token
abbrev pub IfUnanswered : {T E : Type 0} → Renewed T E → (T → E → Type 0) → Type 0
IfUnanswered (Kept new) P = Unit {0}
IfUnanswered (Unkept marked new) P = Unit {0}
IfUnanswered (InUse other token) P = Unit {0}
IfUnanswered LoggedOut P = Unit {0}
IfUnanswered Lost P = Unit {0}
IfUnanswered (Unanswered marked token error) P = P token error
IfUnanswered (Unclear marked token) P = Unit {0}
IfUnanswered Unread P = Unit {0}
IfUnanswered (NoNextVersion token) P = Unit {0}
