-- What a keeper does at the store: the text of its step, what it is told, and what is stored then.
use Rattle.std.specs.Prelude.{ℕ, ◌+◌, ◌==◌, ◌&&◌, Bool, List, [], ◌∷◌, ◌++◌, Option, Some, None, codes, slice_index_or, if◌then◌else◌}
use Rattle.std.specs.Fmt.{decimal}
use Rattle.oauth2_shared_token.specs.declared.renewal.Content.{Content}
use Rattle.oauth2_shared_token.specs.declared.renewal.Content.TheVariants.{AtRest, Marked}
use Rattle.oauth2_shared_token.specs.declared.renewal.Step.{Step}
use Rattle.oauth2_shared_token.specs.declared.renewal.Step.TheVariants as step
use Rattle.oauth2_shared_token.specs.declared.renewal.Told.{Told}
use Rattle.oauth2_shared_token.specs.declared.renewal.Told.TheVariants as told
use Rattle.oauth2_world.specs.Events.{Event, stepped}
use Rattle.oauth2_world.specs.Quotation.{quotation}
use Rattle.oauth2_shared_keeper_command.specs.declared.action.Replacement.{Replacement}
use Rattle.oauth2_shared_keeper_command.specs.declared.action.Stored.{Stored}

-- ---- texts

-- a token, shown by its refresh token as a JSON string
abbrev pub token_text : List (List ℕ) → ℕ → List ℕ
token_text tokens token = quotation (slice_index_or tokens token [])

-- what a version holds: `rest T`, or `mark R T` with the name of the renewal that uses the token
abbrev pub content_text : List (List ℕ) → ℕ → Option ℕ → List ℕ
content_text tokens token None = codes "rest " ++ token_text tokens token
content_text tokens token (Some renewal) =
    codes "mark " ++ decimal renewal ++ codes " " ++ token_text tokens token

-- a version and what it holds
abbrev pub version_text : List (List ℕ) → ℕ → ℕ → Option ℕ → List ℕ
version_text tokens version token mark =
    decimal version ++ codes " " ++ content_text tokens token mark

-- the event of the step that ends a renewal; none for other steps
abbrev pub end_events : List (List ℕ) → ℕ → Step ℕ → List Event
end_events tokens keeper step.Look = []
end_events tokens keeper (step.Mark version token) = []
end_events tokens keeper (step.Send version token) = []
end_events tokens keeper (step.Keep version token) = []
end_events tokens keeper (step.GiveBack version token) = []
end_events tokens keeper step.Repeat = []
end_events tokens keeper (step.InUse other token) =
    stepped keeper (codes "in_use " ++ decimal other ++ codes " " ++ token_text tokens token) ∷ []
end_events tokens keeper step.LoggedOut = stepped keeper (codes "logged_out") ∷ []
end_events tokens keeper step.End = stepped keeper (codes "over") ∷ []

-- ---- effects

-- what a step does at the store
pub record Effect : Type 0 where
  -- the text of the step
  pub text : List ℕ
  -- what the keeper is told
  pub told : Told ℕ
  -- what is stored then
  pub stored : Stored

-- what a version holds, for a machine
abbrev pub content_of : ℕ → Option ℕ → Content ℕ
content_of token None = AtRest token
content_of token (Some renewal) = Marked token renewal

-- a load, whose reply may be lost
abbrev pub load_effect : List (List ℕ) → Stored → Bool → Effect
load_effect tokens stored is_told =
    if is_told
    then record {
      text = codes "load " ++ version_text tokens stored.version stored.token stored.mark;
      told =
          told.Stored
          (record { version = stored.version; content = content_of stored.token stored.mark });
      stored = stored;
    }
    else record { text = codes "load lost"; told = told.Nothing; stored = stored }

-- the store does what it is asked: the request reached it, and it has that version
abbrev pub is_taken : Stored → Replacement → Bool → Bool
is_taken stored asked is_done = is_done && (stored.version == asked.version)

-- what became of a request to replace: `done`, `refused`, or `lost` if the keeper is told nothing
abbrev pub outcome_text : Bool → Bool → List ℕ
outcome_text is_told taken =
    if is_told then (if taken then codes "done" else codes "refused") else codes "lost"

-- a request to replace, which may be lost, or whose reply may be; what is put there has the next version
abbrev pub replace_effect : List (List ℕ) → Stored → Replacement → Bool → Bool → Effect
replace_effect tokens stored asked is_done is_told =
    let taken = is_taken stored asked is_done in
    record {
      text =
          codes "replace "
          ++ version_text tokens asked.version asked.token asked.mark
          ++ codes " "
          ++ outcome_text is_told taken;
      told = if is_told && taken then told.Done else told.Nothing;
      stored =
          if taken then record { version = stored.version + 1; token = asked.token; mark = asked.mark } else stored;
    }
