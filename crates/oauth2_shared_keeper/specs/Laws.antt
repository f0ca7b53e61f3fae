-- The laws of one renewal.
use Rattle.std.specs.Prelude.{◌≡◌, ℕ, ◌≤◌, true, false, List, ◌∷◌, ◌++◌, Option, Some, None, ◌⊎◌}
use Rattle.std.specs.List.{Contains}
use Rattle.oauth2_shared_token.specs.declared.renewal.Content.TheVariants as content
use Rattle.oauth2_shared_token.specs.declared.renewal.StoredValue.{StoredValue}
use Rattle.oauth2_shared_keeper.specs.declared.limits.Limits.{Limits}
use Rattle.oauth2_shared_keeper.specs.declared.renewed.Renewed.{Renewed}
use Rattle.oauth2_shared_keeper.specs.declared.renewed.Renewed.TheVariants.{Kept, Unkept, InUse, LoggedOut, Lost}
use Rattle.oauth2_shared_keeper.specs.declared.renewed.Renewed.TheVariants.{Unanswered, Unclear, Unread, NoNextVersion}
use Rattle.oauth2_shared_keeper.specs.Call.{Call, Load, Replace, Refresh, refreshes_in}
use Rattle.oauth2_shared_keeper.specs.Renewal.{IsRenewal}

-- a token at rest under this version
abbrev pub at_rest : {T : Type 0} → ℕ → T → StoredValue T
at_rest version token = record { version = version; content = content.AtRest token }

-- the renewal of this name has marked this
abbrev pub IsMarkedBy : {T : Type 0} → ℕ → StoredValue T → Type 0
IsMarkedBy {T} name p = (token : T) × (p.content ≡ content.Marked token name)

-- by these calls the mark of this renewal on this version was taken: the store said so, or it did not, and a
-- load showed a mark of this renewal
abbrev pub WasTaken : {T : Type 0} → ℕ → List (Call T) → ℕ → T → Type 0
WasTaken {T} name calls version token =
    Contains calls (Replace version (content.Marked token name) true)
    ⊎ (Contains calls (Replace version (content.Marked token name) false)
    × ((p : StoredValue T) × Contains calls (Load (Some p)) × IsMarkedBy name p))

-- the new token that a caller is handed
abbrev pub new_token_in : {T E : Type 0} → Renewed T E → Option T
new_token_in (Kept new) = Some new
new_token_in (Unkept marked new) = Some new
new_token_in (InUse other token) = None
new_token_in LoggedOut = None
new_token_in Lost = None
new_token_in (Unanswered marked token error) = None
new_token_in (Unclear marked token) = None
new_token_in Unread = None
new_token_in (NoNextVersion token) = None

module _ (T E : Type 0) where
  -- a renewal sends one refresh token at most, and that once
  abbrev pub EachRenewalSendsOnce : Type 0
  EachRenewalSendsOnce =
      (name : ℕ) (limits : Limits) (calls : List (Call T)) (result : Renewed T E) →
      IsRenewal name limits calls result →
      refreshes_in calls ≤ 1

  -- it sends that of a token that a load showed at rest, and whose mark was taken under that version
  abbrev pub EachSendingIsMarked : Type 0
  EachSendingIsMarked =
      (name : ℕ) (limits : Limits) (before after : List (Call T)) (token : T) (given : Option T) (result : Renewed T E) →
      IsRenewal name limits (before ++ Refresh token given ∷ after) result →
      (version : ℕ) × Contains before (Load (Some (at_rest version token))) × WasTaken name before version token

  -- a token that the server gave is handed to the caller, whether the store keeps it or not
  abbrev pub EachGivenIsHandedOver : Type 0
  EachGivenIsHandedOver =
      (name : ℕ) (limits : Limits) (calls : List (Call T)) (token new : T) (result : Renewed T E) →
      IsRenewal name limits calls result →
      Contains calls (Refresh token (Some new)) →
      new_token_in result ≡ Some new
