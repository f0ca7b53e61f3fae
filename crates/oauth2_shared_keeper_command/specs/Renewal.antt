-- A renewal of a keeper: how far it is, and what it does next. A token is told by its number.
use Rattle.std.specs.Prelude.{ℕ, ◌+◌, Some, None}
use Rattle.oauth2_shared_token.specs.declared.renewal.Phase.TheVariants as phase
use Rattle.oauth2_shared_token.specs.declared.renewal.Step.{Step}
use Rattle.oauth2_shared_token.specs.declared.renewal.Step.TheVariants as step
use Rattle.oauth2_shared_token.specs.declared.renewal.Told.{Told}
use Rattle.oauth2_shared_token.specs.declared.renewal.Turn.{Turn}
use Rattle.oauth2_shared_token.specs.Renewal.{next_turn}
use Rattle.oauth2_shared_keeper_command.specs.declared.action.Action.{Action}
use Rattle.oauth2_shared_keeper_command.specs.declared.action.Action.TheVariants as action
use Rattle.oauth2_shared_keeper_command.specs.declared.renewal.Renewal.{Renewal}

-- what a renewal of this name does in this step; `before` is what it did last
abbrev pub action_of : Action → ℕ → Step ℕ → Action
action_of before name step.Look = action.Load
action_of before name (step.Mark version token) =
    action.Replace (record { version = version; token = token; mark = Some name })
action_of before name (step.Send version token) = action.Refresh token
action_of before name (step.Keep version token) =
    action.Replace (record { version = version + 1; token = token; mark = None })
action_of before name (step.GiveBack version token) =
    action.Replace (record { version = version + 1; token = token; mark = None })
action_of before name step.Repeat = before
action_of before name (step.InUse other token) = action.Nothing
action_of before name step.LoggedOut = action.Nothing
action_of before name step.End = action.Nothing

-- a renewal of this name that begins
abbrev pub begun : ℕ → Renewal
begun name = record { name = name; phase = phase.Looking; action = action.Load }

-- no renewal
abbrev pub over : Renewal
over = record { name = 0; phase = phase.Over; action = action.Nothing }

-- the renewal that goes on: the last one of the keeper, or, if that is over, a new one of this name
abbrev pub going_on : ℕ → Action → Renewal → Renewal
going_on name action.Load last = last
going_on name (action.Replace asked) last = last
going_on name (action.Refresh token) last = last
going_on name action.Nothing last = begun name

-- the turn of a renewal that is told this
abbrev pub turn_of : Renewal → Told ℕ → Turn ℕ
turn_of renewal told = next_turn renewal.name renewal.phase told

-- the renewal after that turn
abbrev pub after_turn : Renewal → Told ℕ → Renewal
after_turn renewal told = record {
  name = renewal.name;
  phase = (turn_of renewal told).phase;
  action = action_of renewal.action renewal.name (turn_of renewal told).step;
}
