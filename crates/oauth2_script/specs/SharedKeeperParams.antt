-- The parameters of the command `shared_keeper`.
use Rattle.std.specs.Prelude.{ℕ, List, Option, Some, None, Ok, unwrap_or, if◌then◌else◌, codes}
use Rattle.std.specs.Str.{bytes_eq}
use Rattle.serde_json.specs.Data.{Data}
use Rattle.oauth2_script_values.specs.Reading.{Reading, ◌>>=◌}
use Rattle.oauth2_script_values.specs.Part.{list_part, needed_part, present_part, an_object, small_number, text, word}
use Rattle.oauth2_script.specs.declared.shared_keeper_params.Fate.{Fate}
use Rattle.oauth2_script.specs.declared.shared_keeper_params.Fate.TheVariants as fates
use Rattle.oauth2_script.specs.declared.shared_keeper_params.SharedKeeperStep.{SharedKeeperStep}

-- the refresh token that is stored at first, and the steps of the keepers, in order
pub record SharedKeeperParams : Type 0 where
  pub refresh_token : List ℕ
  pub steps : List SharedKeeperStep

-- what becomes of an action; `None` for other texts
unfoldable pub fate_of : List ℕ → Option Fate
fate_of text =
    if bytes_eq text (codes "done") then Some fates.Done
    else (if bytes_eq text (codes "reply_lost") then Some fates.ReplyLost
    else (if bytes_eq text (codes "request_lost") then Some fates.RequestLost
    else (if bytes_eq text (codes "stopped") then Some fates.Stopped
    else (if bytes_eq text (codes "killed") then Some fates.Killed
    else None))))

-- the value of the member `fate`
abbrev pub fate : Data → Reading Fate
fate d = word fate_of d

-- reads one of the `steps`; `fate` is `done` if absent
unfoldable pub shared_keeper_step : Data → Reading SharedKeeperStep
shared_keeper_step d = do
  d ← an_object d
  keeper ← needed_part small_number (codes "keeper") d
  fate ← present_part fate (codes "fate") d
  Ok (record { keeper = keeper; fate = unwrap_or fate fates.Done })

-- reads `params`; `refresh_token` has to be present
unfoldable pub shared_keeper_params : Data → Reading SharedKeeperParams
shared_keeper_params d = do
  refresh_token ← needed_part text (codes "refresh_token") d
  steps ← list_part shared_keeper_step (codes "steps") d
  Ok (record { refresh_token = refresh_token; steps = steps })
