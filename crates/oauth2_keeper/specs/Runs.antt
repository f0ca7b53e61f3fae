-- A keeper over many calls.
use Rattle.std.specs.Prelude.{◌≡◌, ℕ, ℤ, List, [], ◌∷◌, ◌++◌, map, drop, Option, Some, None, option_map, Result, if◌then◌else◌}
use Rattle.std.specs.Option.{option_or}
use Rattle.oauth2_wire.specs.declared.content_type.ReplyRule.{ReplyRule}
use Rattle.oauth2_wire.specs.declared.error.RequestTokenError.{RequestTokenError}
use Rattle.oauth2_wire.specs.Request.{RequestView}
use Rattle.oauth2_keeper.specs.Keeper.{AcceptedToken, Keeper, Given, Outcome, quiet, accepted, failed, is_good, kept_after, accepted_token, IsOutcome}

-- a call: its time in nanoseconds since 1970, and its outcome
pub record Call : Type 0 where
  pub now : ℤ
  pub outcome : Outcome

-- calls one after another: what is kept, and the HTTP client, before the first and after the last
-- of them
module _ {D T RE C : Type 0} (asks : ReplyRule → (List ℕ → RequestView → Type 0) → List ℕ → C → Result D (RequestTokenError RE T) → C → Type 0) (told : D → Given) where
  abbrev pub Runs : Keeper → C → List Call → C → Keeper → Type 0
  Runs keeper before [] after kept = (after ≡ before) × (kept ≡ keeper)
  Runs keeper before (call ∷ calls) after kept =
      (result : Result Unit (RequestTokenError RE T)) × (middle : C)
      × IsOutcome asks told keeper call.now before result middle call.outcome
      × Runs (kept_after keeper call.now call.outcome) middle calls after kept

-- the reply that a call accepted, if it accepted one
abbrev pub accepted_by : Outcome → Option Given
accepted_by quiet = None
accepted_by (accepted given) = Some given
accepted_by failed = None

-- the token of the last call that accepted a reply
abbrev pub last_token : ℕ → List Call → Option AcceptedToken
last_token default_lifetime [] = None
last_token default_lifetime (call ∷ calls) =
    option_or (last_token default_lifetime calls)
    (option_map (accepted_token default_lifetime call.now) (accepted_by call.outcome))

-- the refresh token of this reply, if it has one
abbrev pub given_refresh_token : Option Given → Option (List ℕ)
given_refresh_token None = None
given_refresh_token (Some given) = given.refresh_token

-- the refresh token of the last accepted reply that has one
abbrev pub last_refresh_token : List Call → Option (List ℕ)
last_refresh_token [] = None
last_refresh_token (call ∷ calls) =
    option_or (last_refresh_token calls) (given_refresh_token (accepted_by call.outcome))

-- what is kept after calls: the token of the last accepted reply, and the refresh token of the last
-- accepted reply that has one
abbrev pub keeps_last : Keeper → List Call → Keeper
keeps_last keeper calls = record keeper {
  token = option_or (last_token keeper.default_lifetime calls) keeper.token;
  refresh_token = option_or (last_refresh_token calls) keeper.refresh_token;
}

-- the reply to the request of a call, if it made one; `None` if that request failed
abbrev pub reply_of_outcome : Outcome → List (Option Given)
reply_of_outcome quiet = []
reply_of_outcome (accepted given) = Some given ∷ []
reply_of_outcome failed = None ∷ []

-- the replies to the requests of these calls, in order; `None` for a request that failed
abbrev pub replies_of_calls : List Call → List (Option Given)
replies_of_calls [] = []
replies_of_calls (call ∷ calls) = reply_of_outcome call.outcome ++ replies_of_calls calls

-- the outcome of a request, by the first of the replies to come
abbrev pub request_outcome : List (Option Given) → Outcome
request_outcome [] = failed
request_outcome (None ∷ replies) = failed
request_outcome (Some given ∷ replies) = accepted given

-- the outcome of a call at `now`, by what is kept and the replies to come
abbrev pub outcome_at : Keeper → ℤ → List (Option Given) → Outcome
outcome_at keeper now replies = if is_good keeper now then quiet else request_outcome replies

-- the calls at these times, if these are the replies to their requests
abbrev pub calls_at : Keeper → List ℤ → List (Option Given) → List Call
calls_at keeper [] replies = []
calls_at keeper (now ∷ moments) replies =
    let outcome = outcome_at keeper now replies in
    record { now = now; outcome = outcome }
    ∷ calls_at (kept_after keeper now outcome) moments (if is_good keeper now then replies else drop 1 replies)

module _ {D T RE C : Type 0} (asks : ReplyRule → (List ℕ → RequestView → Type 0) → List ℕ → C → Result D (RequestTokenError RE T) → C → Type 0) (told : D → Given) where
  -- the kept token is that of the last accepted reply, and the kept refresh token that of the last
  -- accepted reply that has one; until then, each is the one that was kept before the first call
  abbrev pub EachRunKeepsTheLast : Type 0
  EachRunKeepsTheLast =
      (keeper kept : Keeper) (before after : C) (calls : List Call) → Runs asks told keeper before calls after kept → kept ≡ keeps_last keeper calls

  -- which calls make a request depends only on what is kept at first, the times and the replies
  abbrev pub EachRunFollowsFromItsReplies : Type 0
  EachRunFollowsFromItsReplies =
      (keeper kept : Keeper) (before after : C) (calls : List Call) → Runs asks told keeper before calls after kept
      → calls ≡ calls_at keeper (map (λ call. call.now) calls) (replies_of_calls calls)
