-- What renewals, their store and their callers do, when each of it can happen, and what it changes. A
-- renewal that crashed or is paused is one that has no event.
use Rattle.std.specs.Prelude.{◌≡◌, ℕ, ◌+◌, List, [], ◌∷◌, ◌++◌, ◌⊎◌}
use Rattle.std.specs.List.{Contains}
use Rattle.oauth2_shared_token.specs.State.{Token, Stored, at_rest, in_use, empty, put}
use Rattle.oauth2_shared_token.specs.State.{Stage, NotBegun, Asking, Marking, Sending, Holding, Returning, Done, Shared, stage_of}

-- each but the last two has the name of a renewal first, and each has a version
pub data SharedEvent : Type 0 where
  -- a renewal asks to mark this version, which it read at rest
  Asked : ℕ → ℕ → Token → SharedEvent
  -- the store takes the mark of this renewal on this version; its reply may be lost or late
  Marked : ℕ → ℕ → Token → SharedEvent
  -- a renewal, told by a reply or by reading its own mark that it was taken, sends the refresh token
  Sent : ℕ → ℕ → Token → SharedEvent
  -- the server gives it a new token
  Given : ℕ → ℕ → Token → SharedEvent
  -- the store takes that in the place of the renewal's mark
  Kept : ℕ → ℕ → Token → SharedEvent
  -- a renewal whose mark was taken has sent nothing yet, and asks to take the mark off instead
  Withdrew : ℕ → ℕ → Token → SharedEvent
  -- the store takes the old token in the place of the renewal's mark
  GivenBack : ℕ → ℕ → Token → SharedEvent
  -- somebody read this version marked by this renewal and logged in anew, and the store takes what that gave
  SignedIn : ℕ → ℕ → Token → SharedEvent
  -- somebody read this version marked by this renewal and allowed the old token; the store takes it
  Allowed : ℕ → ℕ → Token → SharedEvent
  -- somebody read this version at rest or empty and logged in anew, and the store takes what that gave
  LoggedIn : ℕ → Token → SharedEvent
  -- somebody read this version and logged out, and the store takes that
  LoggedOut : ℕ → SharedEvent

-- the store replaces what is stored only if it has this version
abbrev pub Fits : Stored → ℕ → Type 0
Fits store version = store.version ≡ version

-- somebody read this version marked by this renewal
abbrev pub WasMarked : List Stored → ℕ → ℕ → Type 0
WasMarked past version renewal = (token : Token) × Contains past (in_use version token renewal)

-- somebody read it at rest, or empty
abbrev pub WasFree : List Stored → ℕ → Type 0
WasFree past version =
    ((token : Token) × Contains past (at_rest version token)) ⊎ Contains past (empty version)

-- somebody read it, whatever it held
abbrev pub WasStored : List Stored → ℕ → Type 0
WasStored past version = (p : Stored) × Contains past p × (p.version ≡ version)

-- when each event can happen
abbrev pub CanHappen : Shared → SharedEvent → Type 0
CanHappen s (Asked i version token) =
    (stage_of s i ≡ NotBegun) × Contains s.past (at_rest version token)
CanHappen s (Marked i version token) = (stage_of s i ≡ Asking version token) × Fits s.store version
CanHappen s (Sent i version token) = stage_of s i ≡ Marking version token
CanHappen s (Given i version new) = stage_of s i ≡ Sending version
CanHappen s (Kept i version new) = (stage_of s i ≡ Holding version new) × Fits s.store (version + 1)
CanHappen s (Withdrew i version token) = stage_of s i ≡ Marking version token
CanHappen s (GivenBack i version token) =
    (stage_of s i ≡ Returning version token) × Fits s.store (version + 1)
CanHappen s (SignedIn i version new) = WasMarked s.past version i × Fits s.store version
CanHappen s (Allowed i version token) =
    Contains s.past (in_use version token i) × Fits s.store version
CanHappen s (LoggedIn version new) = WasFree s.past version × Fits s.store version
CanHappen s (LoggedOut version) = WasStored s.past version × Fits s.store version

-- the state after the store took this value
abbrev pub with_stored : Shared → Stored → Shared
with_stored s new = record { store = new; past = s.past ++ new ∷ []; renewals = s.renewals }

-- a renewal gets further
abbrev pub gone_on : Shared → ℕ → Stage → Shared
gone_on s i stage = record {
  store = s.store;
  past = s.past;
  renewals = put NotBegun s.renewals i stage;
}

-- what each event changes
abbrev pub after : Shared → SharedEvent → Shared
after s (Asked i version token) = gone_on s i (Asking version token)
after s (Marked i version token) =
    gone_on (with_stored s (in_use (version + 1) token i)) i (Marking version token)
after s (Sent i version token) = gone_on s i (Sending version)
after s (Given i version new) = gone_on s i (Holding version new)
after s (Kept i version new) = gone_on (with_stored s (at_rest (version + 2) new)) i Done
after s (Withdrew i version token) = gone_on s i (Returning version token)
after s (GivenBack i version token) = gone_on (with_stored s (at_rest (version + 2) token)) i Done
after s (SignedIn i version new) = with_stored s (at_rest (version + 1) new)
after s (Allowed i version token) = with_stored s (at_rest (version + 1) token)
after s (LoggedIn version new) = with_stored s (at_rest (version + 1) new)
after s (LoggedOut version) = with_stored s (empty (version + 1))
