-- The laws of a shared token, over each finished list of events.
use Rattle.std.specs.Prelude.{◌≡◌, ℕ, ◌+◌, ◌≤◌, List, ◌∷◌, ◌++◌, Some, None, ◌⊎◌}
use Rattle.std.specs.List.{Contains}
use Rattle.oauth2_shared_token.specs.State.{Token, Stored, token_in, user_of, begin, in_use, stage_of, Sending}
use Rattle.oauth2_shared_token.specs.Event.{SharedEvent, Given, Kept, SignedIn, Allowed, LoggedIn, LoggedOut}
use Rattle.oauth2_shared_token.specs.Run.{IsRun, at_last, has_refresh, times_sent, times_stored}
use Rattle.oauth2_shared_token.specs.Run.{tokens_stored, newest, newest_given}

-- a refresh token is sent no more often than it was stored
abbrev pub EachSendingWasStored : Type 0
EachSendingWasStored =
    (start : Token) (events : List SharedEvent) (r : List ℕ) →
    IsRun (begin start) events →
    times_sent r events ≤ has_refresh r start + times_stored r events

-- so one that the server gave once is sent at most once, unless a caller said that it may be used again
abbrev pub EachIsSentAtMostOnce : Type 0
EachIsSentAtMostOnce =
    (start : Token) (events : List SharedEvent) (r : List ℕ) →
    IsRun (begin start) events →
    has_refresh r start + times_stored r events ≤ 1 →
    times_sent r events ≤ 1

-- what is stored is the last that was kept, signed in, allowed or logged in, or none if somebody logged out
-- since
abbrev pub WhatIsStoredIsTheNewest : Type 0
WhatIsStoredIsTheNewest =
    (start : Token) (events : List SharedEvent) →
    IsRun (begin start) events →
    token_in (at_last (begin start) events).store.content ≡ newest (Some start) events

-- whatever a load shows, its token came to be stored before
abbrev pub EachReadWasStored : Type 0
EachReadWasStored =
    (start : Token) (events : List SharedEvent) (p : Stored) (token : Token) →
    IsRun (begin start) events →
    Contains (at_last (begin start) events).past p →
    token_in p.content ≡ Some token →
    Contains (start ∷ tokens_stored events) token

-- a caller answered for a renewal that marked this version: he logged in anew, allowed the old token again,
-- or logged out
abbrev pub WasAnswered : List SharedEvent → ℕ → ℕ → Type 0
WasAnswered events i version =
    ((token : Token) × (Contains events (SignedIn i (version + 1) token) ⊎ Contains events (Allowed i (version + 1) token)))
    ⊎ Contains events (LoggedOut (version + 1))

-- the mark of this renewal on this version stands, on the newest token
abbrev pub Stands : Token → List SharedEvent → ℕ → ℕ → Type 0
Stands start events i version =
    (token : Token) × (newest (Some start) events ≡ Some token)
    × ((at_last (begin start) events).store ≡ in_use (version + 1) token i)

-- a token that was given is kept, or the mark stands still, or a caller answered
abbrev pub NoneIsLostUntold : Type 0
NoneIsLostUntold =
    (start : Token) (events : List SharedEvent) (i version : ℕ) (new : Token) →
    IsRun (begin start) events →
    Contains events (Given i version new) →
    Contains events (Kept i version new)
    ⊎ (Stands start events i version ⊎ WasAnswered events i version)

-- no caller replaced the mark of a renewal to which the server gave a token
abbrev pub NoneCameLate : List SharedEvent → Type 0
NoneCameLate events =
    (i version : ℕ) (new : Token) → Contains events (Given i version new) → WasAnswered events i version → ⊥

-- then what is stored at last, if no renewal uses it, is the newest that anybody was given
abbrev pub TheNewestGivenIsStored : Type 0
TheNewestGivenIsStored =
    (start : Token) (events : List SharedEvent) →
    IsRun (begin start) events →
    NoneCameLate events →
    user_of (at_last (begin start) events).store.content ≡ None →
    token_in (at_last (begin start) events).store.content ≡ newest_given (Some start) events

-- two requests run at once only where a caller answered for one of them
abbrev pub OneRunsAtOnce : Type 0
OneRunsAtOnce =
    (start : Token) (events : List SharedEvent) (i j v w : ℕ) →
    IsRun (begin start) events →
    stage_of (at_last (begin start) events) i ≡ Sending v →
    stage_of (at_last (begin start) events) j ≡ Sending w →
    (i ≡ j) ⊎ (WasAnswered events i v ⊎ WasAnswered events j w)

-- after somebody logged out nothing is stored, so that no renewal begins to use it, until somebody logs in
abbrev pub EachLogoutHolds : Type 0
EachLogoutHolds =
    (start : Token) (before events : List SharedEvent) (version : ℕ) →
    IsRun (begin start) (before ++ LoggedOut version ∷ events) →
    ((v : ℕ) (new : Token) → Contains events (LoggedIn v new) → ⊥) →
    token_in (at_last (begin start) (before ++ LoggedOut version ∷ events)).store.content ≡ None
