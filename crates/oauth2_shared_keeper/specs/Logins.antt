-- Logins and logouts of a caller, over a token that many processes share.
use Rattle.std.specs.Prelude.{◌≡◌, ◌⊎◌, ℕ, zero, suc, ◌+◌, ◌^◌, Bool, true, false, List, Option, Some, None, Result, Ok, Err}
use Rattle.oauth2_shared_token.specs.declared.renewal.Content.{Content}
use Rattle.oauth2_shared_token.specs.declared.renewal.Content.TheVariants.{AtRest, Empty}
use Rattle.oauth2_shared_token.specs.declared.renewal.StoredValue.{StoredValue}
use Rattle.oauth2_shared_keeper.specs.declared.replaced.Replaced.{Replaced}
use Rattle.oauth2_shared_keeper.specs.declared.replaced.Replaced.TheVariants as replaced
use Rattle.oauth2_shared_keeper.specs.declared.logged_in.LoggedIn.{LoggedIn}
use Rattle.oauth2_shared_keeper.specs.declared.logged_in.LoggedIn.TheVariants as logged_in
use Rattle.oauth2_shared_keeper.specs.declared.logged_in.LoggedOut.{LoggedOut}
use Rattle.oauth2_shared_keeper.specs.declared.logged_in.LoggedOut.TheVariants as logged_out
use Rattle.oauth2_shared_keeper.specs.Call.{success_of}

-- the store has no next version after this one
abbrev pub IsLast : ℕ → Type 0
IsLast version = version + 1 ≡ 2 ^ 64

-- what the store's answer means to one who asked it to put this token in the place of this version
abbrev pub token_told : {T E : Type 0} → ℕ → T → Result Replaced E → LoggedIn T
token_told version token (Ok replaced.Done) = logged_in.Done
token_told version token (Ok replaced.Refused) = logged_in.Refused token
token_told version token (Err error) = logged_in.Unclear version token

-- what the store's answer means to one who asked it to drop this version, which had this content
abbrev pub content_told : {T E : Type 0} → ℕ → Content T → Result Replaced E → LoggedOut T
content_told version content (Ok replaced.Done) = logged_out.Done content
content_told version content (Ok replaced.Refused) = logged_out.Refused
content_told version content (Err error) = logged_out.Unclear version content

-- a login was refused: somebody else replaced the version first
abbrev pub is_refused_login : {T : Type 0} → LoggedIn T → Bool
is_refused_login logged_in.Done = false
is_refused_login (logged_in.Refused token) = true
is_refused_login (logged_in.Unclear version token) = false
is_refused_login (logged_in.Unread token) = false
is_refused_login (logged_in.NoNextVersion token) = false

-- a logout was refused: somebody else replaced the version first
abbrev pub is_refused_logout : {T : Type 0} → LoggedOut T → Bool
is_refused_logout (logged_out.Done content) = false
is_refused_logout logged_out.Refused = true
is_refused_logout (logged_out.Unclear version content) = false
is_refused_logout logged_out.Unread = false
is_refused_logout (logged_out.NoNextVersion content) = false

module _ {T S E : Type 0} (replaces : S → List ℕ → ℕ → Content T → Result Replaced E → S → Type 0) (name : List ℕ) where
  -- the store is asked once to put this token in the place of this version
  abbrev pub PutsAt : ℕ → T → S → LoggedIn T → S → Type 0
  PutsAt version token before told after =
      (IsLast version × (told ≡ logged_in.NoNextVersion token) × (after ≡ before))
      ⊎ ((IsLast version → ⊥) × ((answer : Result Replaced E) × replaces before name version (AtRest token) answer after
      × (told ≡ token_told version token answer)))

  -- the store is asked once to empty this name if it still has `version`, which has `content`
  abbrev pub DropsAt : ℕ → Content T → S → LoggedOut T → S → Type 0
  DropsAt version content before told after =
      (IsLast version × (told ≡ logged_out.NoNextVersion content) × (after ≡ before))
      ⊎ ((IsLast version → ⊥) × ((answer : Result Replaced E) × replaces before name version Empty answer after
      × (told ≡ content_told version content answer)))

module _ {T S E : Type 0} (loads : S → List ℕ → Result (StoredValue T) E → S → Type 0)
    (replaces : S → List ℕ → ℕ → Content T → Result Replaced E → S → Type 0) (name : List ℕ) where
  -- a load shows this, if it tells anything
  abbrev pub Shows : S → Option (StoredValue T) → S → Type 0
  Shows before shown after =
      (answer : Result (StoredValue T) E)
      × loads before name answer after
      × (shown ≡ success_of answer)

  -- a login over what a load showed: one try, and, if somebody else was first, all `again`
  abbrev pub LogsInOver : (S → LoggedIn T → S → Type 0) → T → Option (StoredValue T) → S
      → LoggedIn T → S → Type 0
  LogsInOver again token None before told after = (told ≡ logged_in.Unread token) × (after ≡ before)
  LogsInOver again token (Some p) before told after =
      ((is_refused_login told ≡ false) × PutsAt replaces name p.version token before told after)
      ⊎ ((next : S) × PutsAt replaces name p.version token before (logged_in.Refused token) next × again next told after)

  -- a login in so many tries, each over what a load shows
  abbrev pub LogsIn : ℕ → T → S → LoggedIn T → S → Type 0
  LogsIn zero token before told after = (told ≡ logged_in.Refused token) × (after ≡ before)
  LogsIn (suc tries) token before told after =
      (shown : Option (StoredValue T)) × (loaded : S) × Shows before shown loaded
      × LogsInOver (LogsIn tries token) token shown loaded told after

  -- a logout over what a load showed: one try, and, if somebody else was first, all `again`
  abbrev pub LogsOutOver : (S → LoggedOut T → S → Type 0) → Option (StoredValue T) → S → LoggedOut T
      → S → Type 0
  LogsOutOver again None before told after = (told ≡ logged_out.Unread) × (after ≡ before)
  LogsOutOver again (Some p) before told after =
      ((is_refused_logout told ≡ false) × DropsAt replaces name p.version p.content before told after)
      ⊎ ((next : S) × DropsAt replaces name p.version p.content before logged_out.Refused next × again next told after)

  -- a logout in so many tries, each over what a load shows
  abbrev pub LogsOut : ℕ → S → LoggedOut T → S → Type 0
  LogsOut zero before told after = (told ≡ logged_out.Refused) × (after ≡ before)
  LogsOut (suc tries) before told after =
      (shown : Option (StoredValue T)) × (loaded : S) × Shows before shown loaded
      × LogsOutOver (LogsOut tries) shown loaded told after
