-- The command `shared_keeper`: keepers that share a token through a store, and go step by step.
use Rattle.std.specs.Prelude.{◌≡◌, ℕ, ◌+◌, Bool, true, false, List, [], ◌∷◌, ◌++◌, length, replicate, slice_index_or, slice_set, Option, Some, None, codes}
use Rattle.oauth2.specs.Settings.{Settings}
use Rattle.oauth2_shared_token.specs.declared.renewal.Told.{Told}
use Rattle.oauth2_shared_token.specs.declared.renewal.Told.TheVariants as told
use Rattle.oauth2_urls.specs.Addressed.{Addressed}
use Rattle.oauth2_world.specs.Events.{Event, stepped}
use Rattle.oauth2_world.specs.Replies.{later_replies}
use Rattle.oauth2_script.specs.Replies.{Reply, failed}
use Rattle.oauth2_script.specs.SharedKeeperParams.{SharedKeeperParams}
use Rattle.oauth2_script.specs.declared.shared_keeper_params.Fate.{Fate}
use Rattle.oauth2_script.specs.declared.shared_keeper_params.Fate.TheVariants as fates
use Rattle.oauth2_script.specs.declared.shared_keeper_params.SharedKeeperStep.{SharedKeeperStep}
use Rattle.oauth2_request_commands.specs.Client.{WithToken}
use Rattle.oauth2_request_commands.specs.Out.{Output, nothing, both_outputs}
use Rattle.oauth2_request_commands.specs.declared.status.RunStatus.TheVariants as status
use Rattle.oauth2_shared_keeper_command.specs.Effect.{Effect, token_text, end_events, load_effect, replace_effect}
use Rattle.oauth2_shared_keeper_command.specs.Refreshing.{IsRefreshed}
use Rattle.oauth2_shared_keeper_command.specs.Renewal.{over, going_on, turn_of, after_turn}
use Rattle.oauth2_shared_keeper_command.specs.declared.action.Action.{Action}
use Rattle.oauth2_shared_keeper_command.specs.declared.action.Action.TheVariants as action
use Rattle.oauth2_shared_keeper_command.specs.declared.action.Stored.{Stored}
use Rattle.oauth2_shared_keeper_command.specs.declared.renewal.Renewal.{Renewal}

-- what is stored; the refresh token of each token, at the place of its number; the renewal of each
-- keeper, at the place of its number; and the replies that are left
pub record Standing : Type 0 where
  pub stored : Stored
  pub tokens : List (List ℕ)
  pub renewals : List Renewal
  pub replies : List Reply

-- the keeper with this number has this renewal now
abbrev pub with_renewal : Standing → ℕ → Renewal → Standing
with_renewal s keeper renewal = record s { renewals = slice_set s.renewals keeper renewal }

-- events of a step that is no fault
abbrev pub says : List Event → Output
says events = record { events = events; status = status.Answered }

-- a keeper did this at the store, and its renewal takes its turn
abbrev pub after_effect : Standing → ℕ → Renewal → Effect → Standing
after_effect s keeper renewal effect =
    with_renewal (record s { stored = effect.stored }) keeper (after_turn renewal effect.told)

-- the events of that: the step, and the end of the renewal, if this ends it
abbrev pub effect_output : Standing → ℕ → Renewal → Effect → Output
effect_output s keeper renewal effect =
    says
    (stepped keeper effect.text ∷ end_events s.tokens keeper (turn_of renewal effect.told).step)

-- a run goes on so after that
abbrev pub IsEffect : Standing → ℕ → Renewal → Effect → Output → Standing → Type 0
IsEffect s keeper renewal effect o kept =
    (o ≡ effect_output s keeper renewal effect) × (kept ≡ after_effect s keeper renewal effect)

-- the keeper is told this, and nothing else happens; `text` is that of the step
abbrev pub without_effect : Standing → List ℕ → Told ℕ → Effect
without_effect s text what = record { text = text; told = what; stored = s.stored }

-- the text for a refresh token that a keeper sends, or wants to send
abbrev pub refresh_text : List (List ℕ) → ℕ → List ℕ
refresh_text tokens token = codes "refresh " ++ token_text tokens token

-- ---- a refresh token that is sent

-- what the keeper is told: the number of a new token, or nothing
abbrev pub told_of : List (List ℕ) → Option (List ℕ) → Told ℕ
told_of tokens None = told.Nothing
told_of tokens (Some refresh_token) = told.Answer (length tokens)

-- all tokens then
abbrev pub with_given : List (List ℕ) → Option (List ℕ) → List (List ℕ)
with_given tokens None = tokens
with_given tokens (Some refresh_token) = tokens ++ refresh_token ∷ []

-- the replies that the client gets: a reply that is lost is a call that failed
abbrev pub coming : Bool → List Reply → List Reply
coming true replies = replies
coming false replies = failed ∷ later_replies replies

-- the events of the keeper around those of the request
abbrev pub around : List Event → Output → List Event → Output
around before sent end = record { events = before ++ sent.events ++ end; status = sent.status }

-- the client sends the refresh token, and the renewal takes its turn
abbrev pub IsSending : Settings → Addressed → Standing → ℕ → Renewal → ℕ → Bool → Output → Standing
    → Type 0
IsSending client url s keeper renewal token is_told o kept =
    (sent : Output) × (given : Option (List ℕ)) × (left : List Reply)
    × IsRefreshed client url (slice_index_or s.tokens token []) (coming is_told s.replies) sent
    given left
    × (o ≡ around (stepped keeper (refresh_text s.tokens token) ∷ []) sent
    (end_events (with_given s.tokens given) keeper (turn_of renewal (told_of s.tokens given)).step))
    × (kept ≡ with_renewal (record s { tokens = with_given s.tokens given; replies = left }) keeper (after_turn renewal (told_of s.tokens given)))

-- ---- steps

-- the next action of a renewal, which is done or not, and of which the keeper is told or not
abbrev pub IsAction : Settings → Addressed → Standing → ℕ → Renewal → Action → Bool → Bool → Output
    → Standing → Type 0
IsAction client url s keeper renewal action.Load is_done is_told o kept =
    IsEffect s keeper renewal (load_effect s.tokens s.stored is_told) o kept
IsAction client url s keeper renewal (action.Replace asked) is_done is_told o kept =
    IsEffect s keeper renewal (replace_effect s.tokens s.stored asked is_done is_told) o kept
IsAction client url s keeper renewal (action.Refresh token) true is_told o kept =
    IsSending client url s keeper renewal token is_told o kept
IsAction client url s keeper renewal (action.Refresh token) false is_told o kept =
    IsEffect s keeper renewal
    (without_effect s (refresh_text s.tokens token ++ codes " lost") told.Nothing) o kept
IsAction client url s keeper renewal action.Nothing is_done is_told o kept =
    IsEffect s keeper renewal (without_effect s (codes "over") told.Nothing) o kept

-- the renewal that goes on, with the fate of its next action
abbrev pub IsGoing : Settings → Addressed → Standing → ℕ → Renewal → Fate → Output → Standing
    → Type 0
IsGoing client url s keeper renewal fates.Done o kept =
    IsAction client url s keeper renewal renewal.action true true o kept
IsGoing client url s keeper renewal fates.ReplyLost o kept =
    IsAction client url s keeper renewal renewal.action true false o kept
IsGoing client url s keeper renewal fates.RequestLost o kept =
    IsAction client url s keeper renewal renewal.action false false o kept
IsGoing client url s keeper renewal fates.Stopped o kept =
    IsEffect s keeper renewal (without_effect s (codes "stopped") told.Stop) o kept
IsGoing client url s keeper renewal fates.Killed o kept =
    (o ≡ says (stepped keeper (codes "killed") ∷ [])) × (kept ≡ with_renewal s keeper over)

-- one step; the name of a renewal is the place of the step that began it
abbrev pub IsStep : Settings → Addressed → ℕ → Standing → SharedKeeperStep → Output → Standing
    → Type 0
IsStep client url place s step o kept =
    let last = slice_index_or s.renewals step.keeper over in
    IsGoing client url s step.keeper (going_on place last.action last) step.fate o kept

-- these steps in order, the first at this place
abbrev pub AreSteps : Settings → Addressed → ℕ → Standing → List SharedKeeperStep → Output
    → Standing → Type 0
AreSteps client url place s [] o kept = (o ≡ nothing) × (kept ≡ s)
AreSteps client url place s (step ∷ steps) o kept =
    (first : Output) × (middle : Standing) × (rest : Output)
    × IsStep client url place s step first middle
    × AreSteps client url (place + 1) middle steps rest kept
    × (o ≡ both_outputs first rest)

-- token 0 is at rest, and no keeper has begun; there are 256 of them
abbrev pub new_standing : SharedKeeperParams → List Reply → Standing
new_standing p replies = record {
  stored = record { version = 0; token = 0; mark = None };
  tokens = p.refresh_token ∷ [];
  renewals = replicate 256 over;
  replies = replies;
}

-- the output of `shared_keeper`: that of its steps, or that no token endpoint is set
abbrev pub IsSharedKeeperOutput : Settings → SharedKeeperParams → List Reply → Output → Type 0
IsSharedKeeperOutput client p replies o =
    WithToken (λ url o. (kept : Standing) × AreSteps client url 0 (new_standing p replies) p.steps o kept) client.token_url o
