-- Parts of a renewal.
use Rattle.std.specs.Prelude.{◌≡◌, ℕ, ◌≤◌, List, Option, Some, None}
use Rattle.oauth2_shared_token.specs.declared.renewal.Content.{Content}
use Rattle.oauth2_shared_token.specs.declared.renewal.Content.TheVariants as content
use Rattle.oauth2_shared_token.specs.declared.renewal.StoredValue.{StoredValue}
use Rattle.oauth2_shared_token.specs.declared.renewal.Learnt.{Learnt}
use Rattle.oauth2_shared_token.specs.declared.renewal.Learnt.TheVariants as learnt
use Rattle.oauth2_shared_token.specs.declared.renewal.Phase.TheVariants as phase
use Rattle.oauth2_shared_token.specs.declared.renewal.Step.TheVariants as step
use Rattle.oauth2_shared_token.specs.declared.renewal.Turn.{Turn}
use Rattle.oauth2_shared_token.specs.Renewal.{turn_of, read_again}
use Rattle.oauth2_shared_keeper.specs.declared.marking.Marking.{Marking}
use Rattle.oauth2_shared_keeper.specs.declared.marking.Marking.TheVariants.{Taken, Passed, Open}
use Rattle.oauth2_shared_keeper.specs.Call.{Call, Load, loads_in, replacements_in, refreshes_in}
use Rattle.oauth2_shared_keeper.specs.Renewal.{AsksInTurn, EndsWith, over}

-- the token of a content, if there is one
abbrev pub token_of : {T : Type 0} → Content T → Option T
token_of (content.AtRest token) = Some token
token_of (content.Marked token other) = Some token
token_of content.Empty = None

-- what a load says of the mark of this renewal on this version
abbrev pub learnt_by : {T : Type 0} → ℕ → ℕ → Option (StoredValue T) → Learnt
learnt_by name version (Some p) = read_again name version p
learnt_by name version None = learnt.Open

-- calls of the store alone lead from one turn to another
pub record Passes {T : Type 0} (name : ℕ) (from : Turn T) (calls : List (Call T)) (to : Turn T) (loads replacements : ℕ) : Type 0 where
  pub asks : AsksInTurn name from calls to
  pub loads_are : loads_in calls ≡ loads
  pub replacements_are : replacements_in calls ≡ replacements
  pub unsent : refreshes_in calls ≡ 0

-- the turn in which this version is asked for, and the turns after it
abbrev pub marks_next : {T : Type 0} → ℕ → T → Turn T
marks_next version token = turn_of (phase.Asking version token) (step.Mark version token)

abbrev pub looks_again : {T : Type 0} → ℕ → T → Turn T
looks_again version token = turn_of (phase.Asking version token) step.Look

abbrev pub sends_next : {T : Type 0} → ℕ → T → Turn T
sends_next version token = turn_of (phase.Sending version) (step.Send version token)

abbrev pub keeps_next : {T : Type 0} → ℕ → T → Turn T
keeps_next version new = turn_of (phase.Keeping version new) (step.Keep version new)

abbrev pub keeps_again : {T : Type 0} → ℕ → T → Turn T
keeps_again version new = turn_of (phase.Keeping version new) step.Repeat

module _ {T : Type 0} (name version : ℕ) (token : T) (loads : ℕ) (calls : List (Call T)) where
  -- what became of the mark after these calls
  abbrev pub IsMarking : Marking T → Type 0
  IsMarking (Taken held) =
      (held ≡ token) × (used : ℕ) × (used ≤ loads) × Passes name (marks_next version token) calls (sends_next version token) used 1
  IsMarking Passed =
      (used : ℕ) × (used ≤ loads) × Passes name (marks_next version token) calls over used 1
      × (p : StoredValue T) × EndsWith name (marks_next version token) calls (phase.Asking version token) (Load (Some p))
  IsMarking (Open held) =
      (held ≡ token)
      × Passes name (marks_next version token) calls (looks_again version token) loads 1
