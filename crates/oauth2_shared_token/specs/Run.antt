-- A finished list of events, and what is read off it.
use Rattle.std.specs.Prelude.{ℕ, ◌+◌, bytes_eq, if◌then◌else◌, List, [], ◌∷◌, Option, Some, None}
use Rattle.oauth2_shared_token.specs.State.{Token, Shared}
use Rattle.oauth2_shared_token.specs.Event.{SharedEvent, Asked, Marked, Sent, Given, Kept, Withdrew, GivenBack, SignedIn}
use Rattle.oauth2_shared_token.specs.Event.{Allowed, LoggedIn, LoggedOut, CanHappen, after}

-- each event can happen when its turn comes: any number of renewals, in any order, each stopped anywhere
abbrev pub IsRun : Shared → List SharedEvent → Type 0
IsRun s [] = Unit {0}
IsRun s (event ∷ events) = CanHappen s event × IsRun (after s event) events

-- the state after all of these events
abbrev pub at_last : Shared → List SharedEvent → Shared
at_last s [] = s
at_last s (event ∷ events) = at_last (after s event) events

-- 1 if the token has this refresh token
abbrev pub has_refresh : List ℕ → Token → ℕ
has_refresh r token = if bytes_eq r token.refresh then 1 else 0

-- how often a refresh token is sent
abbrev pub times_sent : List ℕ → List SharedEvent → ℕ
times_sent r [] = 0
times_sent r (Asked i version token ∷ events) = times_sent r events
times_sent r (Marked i version token ∷ events) = times_sent r events
times_sent r (Sent i version token ∷ events) = has_refresh r token + times_sent r events
times_sent r (Given i version new ∷ events) = times_sent r events
times_sent r (Kept i version new ∷ events) = times_sent r events
times_sent r (Withdrew i version token ∷ events) = times_sent r events
times_sent r (GivenBack i version token ∷ events) = times_sent r events
times_sent r (SignedIn i version new ∷ events) = times_sent r events
times_sent r (Allowed i version token ∷ events) = times_sent r events
times_sent r (LoggedIn version new ∷ events) = times_sent r events
times_sent r (LoggedOut version ∷ events) = times_sent r events

-- how often it comes to be stored, as part of a new token or because a caller said so: not where a mark on
-- it is taken off
abbrev pub times_stored : List ℕ → List SharedEvent → ℕ
times_stored r [] = 0
times_stored r (Asked i version token ∷ events) = times_stored r events
times_stored r (Marked i version token ∷ events) = times_stored r events
times_stored r (Sent i version token ∷ events) = times_stored r events
times_stored r (Given i version new ∷ events) = times_stored r events
times_stored r (Kept i version new ∷ events) = has_refresh r new + times_stored r events
times_stored r (Withdrew i version token ∷ events) = times_stored r events
times_stored r (GivenBack i version token ∷ events) = times_stored r events
times_stored r (SignedIn i version new ∷ events) = has_refresh r new + times_stored r events
times_stored r (Allowed i version token ∷ events) = has_refresh r token + times_stored r events
times_stored r (LoggedIn version new ∷ events) = has_refresh r new + times_stored r events
times_stored r (LoggedOut version ∷ events) = times_stored r events

-- the tokens that come to be stored, in order
abbrev pub tokens_stored : List SharedEvent → List Token
tokens_stored [] = []
tokens_stored (Asked i version token ∷ events) = tokens_stored events
tokens_stored (Marked i version token ∷ events) = tokens_stored events
tokens_stored (Sent i version token ∷ events) = tokens_stored events
tokens_stored (Given i version new ∷ events) = tokens_stored events
tokens_stored (Kept i version new ∷ events) = new ∷ tokens_stored events
tokens_stored (Withdrew i version token ∷ events) = tokens_stored events
tokens_stored (GivenBack i version token ∷ events) = tokens_stored events
tokens_stored (SignedIn i version new ∷ events) = new ∷ tokens_stored events
tokens_stored (Allowed i version token ∷ events) = token ∷ tokens_stored events
tokens_stored (LoggedIn version new ∷ events) = new ∷ tokens_stored events
tokens_stored (LoggedOut version ∷ events) = tokens_stored events

-- the last token that came to be stored: `token` if none did, and none if somebody logged out since
abbrev pub newest : Option Token → List SharedEvent → Option Token
newest token [] = token
newest token (Asked i version t ∷ events) = newest token events
newest token (Marked i version t ∷ events) = newest token events
newest token (Sent i version t ∷ events) = newest token events
newest token (Given i version new ∷ events) = newest token events
newest token (Kept i version new ∷ events) = newest (Some new) events
newest token (Withdrew i version t ∷ events) = newest token events
newest token (GivenBack i version t ∷ events) = newest token events
newest token (SignedIn i version new ∷ events) = newest (Some new) events
newest token (Allowed i version t ∷ events) = newest (Some t) events
newest token (LoggedIn version new ∷ events) = newest (Some new) events
newest token (LoggedOut version ∷ events) = newest None events

-- the last token that the server gave a renewal, that a new login gave, or that a caller allowed to
-- be used again; `token` if none of these happened, and none if somebody logged out since. `newest`
-- counts a token of the server when it is stored (`Kept`), this when it is given (`Given`)
abbrev pub newest_given : Option Token → List SharedEvent → Option Token
newest_given token [] = token
newest_given token (Asked i version t ∷ events) = newest_given token events
newest_given token (Marked i version t ∷ events) = newest_given token events
newest_given token (Sent i version t ∷ events) = newest_given token events
newest_given token (Given i version new ∷ events) = newest_given (Some new) events
newest_given token (Kept i version new ∷ events) = newest_given token events
newest_given token (Withdrew i version t ∷ events) = newest_given token events
newest_given token (GivenBack i version t ∷ events) = newest_given token events
newest_given token (SignedIn i version new ∷ events) = newest_given (Some new) events
newest_given token (Allowed i version t ∷ events) = newest_given (Some t) events
newest_given token (LoggedIn version new ∷ events) = newest_given (Some new) events
newest_given token (LoggedOut version ∷ events) = newest_given None events
