-- What a renewal does next from what it knows and is told, and when that is so.
use Rattle.std.specs.Prelude.{◌≡◌, ◌≢◌, ℕ, ◌+◌, ◌==◌, nat_lt, if◌then◌else◌, Bool, ◌⊎◌, List, [], ◌∷◌}
use Rattle.std.specs.List.{Contains}
use Rattle.oauth2_shared_token.specs.declared.renewal.Content.{Content}
use Rattle.oauth2_shared_token.specs.declared.renewal.Content.TheVariants as content
use Rattle.oauth2_shared_token.specs.declared.renewal.StoredValue.{StoredValue}
use Rattle.oauth2_shared_token.specs.declared.renewal.Phase.{Phase}
use Rattle.oauth2_shared_token.specs.declared.renewal.Phase.TheVariants as phase
use Rattle.oauth2_shared_token.specs.declared.renewal.Told.{Told}
use Rattle.oauth2_shared_token.specs.declared.renewal.Told.TheVariants as told
use Rattle.oauth2_shared_token.specs.declared.renewal.Step.{Step}
use Rattle.oauth2_shared_token.specs.declared.renewal.Step.TheVariants as step
use Rattle.oauth2_shared_token.specs.declared.renewal.Turn.{Turn}
use Rattle.oauth2_shared_token.specs.declared.renewal.Learnt.{Learnt}
use Rattle.oauth2_shared_token.specs.declared.renewal.Learnt.TheVariants as learnt
use Rattle.oauth2_shared_token.specs.State as state
use Rattle.oauth2_shared_token.specs.State.{Token, Stored, in_use, NotBegun, Asking, Marking, Sending}
use Rattle.oauth2_shared_token.specs.State.{Holding, Returning, Done, Shared, stage_of, begin}
use Rattle.oauth2_shared_token.specs.Event.{SharedEvent, Asked, Marked, Sent, Given, Kept, Withdrew, GivenBack}
use Rattle.oauth2_shared_token.specs.Event.{SignedIn, Allowed, LoggedIn, LoggedOut, CanHappen, after}
use Rattle.oauth2_shared_token.specs.Run.{IsRun, at_last}

-- a phase with a step
abbrev pub turn_of : {T : Type 0} → Phase T → Step T → Turn T
turn_of phase step = record { phase = phase; step = step }

-- the next turn after reading a version: it asks to mark a token at rest, and else it ends
abbrev pub looked_at : {T : Type 0} → ℕ → Content T → Turn T
looked_at version (content.AtRest token) =
    turn_of (phase.Asking version token) (step.Mark version token)
looked_at version (content.Marked token other) = turn_of phase.Over (step.InUse other token)
looked_at version content.Empty = turn_of phase.Over step.LoggedOut

-- the next turn of a renewal that looks: it acts on the value that it read, looks again, or ends
abbrev pub after_looking : {T : Type 0} → Told T → Turn T
after_looking (told.Stored p) = looked_at p.version p.content
after_looking told.Done = turn_of phase.Looking step.Look
after_looking told.Nothing = turn_of phase.Looking step.Look
after_looking (told.Answer new) = turn_of phase.Looking step.Look
after_looking told.Stop = turn_of phase.Over step.End

-- a version that the store is past can be marked no more
abbrev pub past_or_open : Bool → Learnt
past_or_open is_past = if is_past then learnt.Lost else learnt.Open

-- what the content of a value says of the mark: it was taken if it has the name of this renewal
abbrev pub seen_in : {T : Type 0} → ℕ → Bool → Content T → Learnt
seen_in name is_past (content.AtRest token) = past_or_open is_past
seen_in name is_past (content.Marked token other) =
    if other == name then learnt.Taken else past_or_open is_past
seen_in name is_past content.Empty = past_or_open is_past

-- what a value that is read says of the mark of this renewal on this version
abbrev pub read_again : {T : Type 0} → ℕ → ℕ → StoredValue T → Learnt
read_again name version p = seen_in name (nat_lt version p.version) p.content

-- the refresh token is sent once the mark was taken, and never before
abbrev pub sent_if : {T : Type 0} → ℕ → T → Learnt → Turn T
sent_if version token learnt.Taken = turn_of (phase.Sending version) (step.Send version token)
sent_if version token learnt.Lost = turn_of phase.Over step.End
sent_if version token learnt.Open = turn_of (phase.Asking version token) step.Look

-- the next turn after asking for the mark: it sends the refresh token, ends, looks again, or leaves
abbrev pub after_asking : {T : Type 0} → ℕ → ℕ → T → Told T → Turn T
after_asking name version token (told.Stored p) = sent_if version token (read_again name version p)
after_asking name version token told.Done = sent_if version token learnt.Taken
after_asking name version token told.Nothing = sent_if version token learnt.Open
after_asking name version token (told.Answer new) = sent_if version token learnt.Open
after_asking name version token told.Stop = turn_of (phase.Leaving version token) step.Look

-- a mark is given back once it was taken
abbrev pub returned_if : {T : Type 0} → ℕ → T → Learnt → Turn T
returned_if version token learnt.Taken =
    turn_of (phase.Returning version token) (step.GiveBack version token)
returned_if version token learnt.Lost = turn_of phase.Over step.End
returned_if version token learnt.Open = turn_of (phase.Leaving version token) step.Look

-- the next turn of a renewal that leaves: it gives back a mark that was taken, ends, or looks again
abbrev pub after_leaving : {T : Type 0} → ℕ → ℕ → T → Told T → Turn T
after_leaving name version token (told.Stored p) =
    returned_if version token (read_again name version p)
after_leaving name version token told.Done = returned_if version token learnt.Taken
after_leaving name version token told.Nothing = returned_if version token learnt.Open
after_leaving name version token (told.Answer new) = returned_if version token learnt.Open
after_leaving name version token told.Stop = returned_if version token learnt.Open

-- what the server gave is kept (RFC 6749, 6)
abbrev pub after_sending : {T : Type 0} → ℕ → Told T → Turn T
after_sending version (told.Stored p) = turn_of phase.Over step.End
after_sending version told.Done = turn_of phase.Over step.End
after_sending version told.Nothing = turn_of phase.Over step.End
after_sending version (told.Answer new) =
    turn_of (phase.Keeping version new) (step.Keep version new)
after_sending version told.Stop = turn_of phase.Over step.End

-- the next turn in this phase: the last request is repeated while no reply comes; then it ends
abbrev pub again_in : {T : Type 0} → Phase T → Told T → Turn T
again_in now told.Nothing = turn_of now step.Repeat
again_in now (told.Stored p) = turn_of phase.Over step.End
again_in now told.Done = turn_of phase.Over step.End
again_in now (told.Answer new) = turn_of phase.Over step.End
again_in now told.Stop = turn_of phase.Over step.End

-- the next turn after asking to store the new token: it asks again while no reply comes
abbrev pub after_keeping : {T : Type 0} → ℕ → T → Told T → Turn T
after_keeping version new told = again_in (phase.Keeping version new) told

-- the next turn after giving the mark back: it asks again while no reply comes
abbrev pub after_returning : {T : Type 0} → ℕ → T → Told T → Turn T
after_returning version token told = again_in (phase.Returning version token) told

-- what a renewal of this name does next
abbrev pub next_turn : {T : Type 0} → ℕ → Phase T → Told T → Turn T
next_turn name phase.Looking told = after_looking told
next_turn name (phase.Asking version token) told = after_asking name version token told
next_turn name (phase.Leaving version token) told = after_leaving name version token told
next_turn name (phase.Sending version) told = after_sending version told
next_turn name (phase.Keeping version new) told = after_keeping version new told
next_turn name (phase.Returning version token) told = after_returning version token told
next_turn name phase.Over told = turn_of phase.Over step.End

-- the content of a version, as the events describe it
abbrev pub content_of : Content Token → state.Content
content_of (content.AtRest token) = state.AtRest token
content_of (content.Marked token other) = state.InUse token other
content_of content.Empty = state.Empty

-- a stored value, its version and its content, as the events describe it
abbrev pub stored_of : StoredValue Token → Stored
stored_of p = record { version = p.version; content = content_of p.content }

-- some run leads there
pub record IsReached (s : Shared) : Type 0 where
  pub start : Token
  pub events : List SharedEvent
  pub run : IsRun (begin start) events
  pub is : s ≡ at_last (begin start) events

-- what a renewal knows of itself is so
abbrev pub Knows : Shared → ℕ → Phase Token → Type 0
Knows s name phase.Looking = stage_of s name ≡ NotBegun
Knows s name (phase.Asking version token) =
    (stage_of s name ≡ Asking version token) ⊎ (stage_of s name ≡ Marking version token)
Knows s name (phase.Leaving version token) =
    (stage_of s name ≡ Asking version token) ⊎ (stage_of s name ≡ Marking version token)
Knows s name (phase.Sending version) = stage_of s name ≡ Sending version
Knows s name (phase.Keeping version new) =
    (stage_of s name ≡ Holding version new) ⊎ (stage_of s name ≡ Done)
Knows s name (phase.Returning version token) =
    (stage_of s name ≡ Returning version token) ⊎ (stage_of s name ≡ Done)
Knows s name phase.Over = Unit {0}

-- what a renewal is told is so, if all this was ever stored: a load shows something of it, and the store
-- says of a mark that it is done only if the mark was stored. To be told nothing says nothing, and a
-- server may answer anything
abbrev pub IsSo : List Stored → ℕ → Phase Token → Told Token → Type 0
IsSo past name phase (told.Stored p) = Contains past (stored_of p)
IsSo past name phase told.Nothing = Unit {0}
IsSo past name phase (told.Answer new) = Unit {0}
IsSo past name phase told.Stop = Unit {0}
IsSo past name phase.Looking told.Done = Unit {0}
IsSo past name (phase.Asking version token) told.Done =
    Contains past (in_use (version + 1) token name)
IsSo past name (phase.Leaving version token) told.Done =
    Contains past (in_use (version + 1) token name)
IsSo past name (phase.Sending version) told.Done = Unit {0}
IsSo past name (phase.Keeping version new) told.Done = Unit {0}
IsSo past name (phase.Returning version token) told.Done = Unit {0}
IsSo past name phase.Over told.Done = Unit {0}

-- the events of a step: of one that keeps a token, that the server gave it
abbrev pub events_of : ℕ → Step Token → List SharedEvent
events_of name step.Look = []
events_of name (step.Mark version token) = Asked name version token ∷ []
events_of name (step.Send version token) = Sent name version token ∷ []
events_of name (step.Keep version new) = Given name version new ∷ []
events_of name (step.GiveBack version token) = Withdrew name version token ∷ []
events_of name step.Repeat = []
events_of name (step.InUse other token) = []
events_of name step.LoggedOut = []
events_of name step.End = []

-- each step of a renewal is an event that can happen
abbrev pub EachStepCanHappen : Type 0
EachStepCanHappen =
    (s : Shared) (name : ℕ) (phase : Phase Token) (told : Told Token) →
    IsReached s →
    Knows s name phase →
    IsSo s.past name phase told →
    IsRun s (events_of name (next_turn name phase told).step)

-- what it knows after its step is so
abbrev pub EachStepIsKnown : Type 0
EachStepIsKnown =
    (s : Shared) (name : ℕ) (phase : Phase Token) (told : Told Token) →
    IsReached s →
    Knows s name phase →
    IsSo s.past name phase told →
    Knows (at_last s (events_of name (next_turn name phase told).step)) name
    (next_turn name phase told).phase

-- what others and the store do, not it
abbrev pub IsOfOthers : ℕ → SharedEvent → Type 0
IsOfOthers name (Asked i version token) = name ≢ i
IsOfOthers name (Marked i version token) = Unit {0}
IsOfOthers name (Sent i version token) = name ≢ i
IsOfOthers name (Given i version new) = name ≢ i
IsOfOthers name (Kept i version new) = Unit {0}
IsOfOthers name (Withdrew i version token) = name ≢ i
IsOfOthers name (GivenBack i version token) = Unit {0}
IsOfOthers name (SignedIn i version new) = Unit {0}
IsOfOthers name (Allowed i version token) = Unit {0}
IsOfOthers name (LoggedIn version new) = Unit {0}
IsOfOthers name (LoggedOut version) = Unit {0}

-- and stays so, whatever others and the store do
abbrev pub WhatIsKnownStays : Type 0
WhatIsKnownStays =
    (s : Shared) (name : ℕ) (phase : Phase Token) (event : SharedEvent) →
    Knows s name phase →
    CanHappen s event →
    IsOfOthers name event →
    Knows (after s event) name phase
