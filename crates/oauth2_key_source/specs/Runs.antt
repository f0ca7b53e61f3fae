-- A source of keys over many calls.
use Rattle.std.specs.Prelude.{◌≡◌, ℕ, ℤ, pos, ◌+ℤ◌, int_le, int_lt, Bool, true, false, not, ◌&&◌, IsTrue, All, List, [], ◌∷◌, ◌++◌, Option, Some, None, Result, Ok, Err}
use Rattle.jiff_core.specs.declared.timestamp.Timestamp.{Timestamp}
use Rattle.oauth2_keys.specs.declared.json_web_key.ListedKey.{ListedKey}
use Rattle.oauth2_key_source.specs.declared.key_set_error.KeySetError.{KeySetError}
use Rattle.oauth2_key_source.specs.declared.source_error.KeySourceError.{KeySourceError}
use Rattle.oauth2_key_source.specs.declared.source_error.KeySourceError.TheVariants.{Request, Waits}
use Rattle.oauth2_key_source.specs.Request.{KeySetQuery}
use Rattle.oauth2_key_source.specs.Source.{Source, found_at, is_due, SourceCalls}

-- a call: its moment, the name of the key that it asks for, and whether it makes a request
pub record SourceCall : Type 0 where
  pub now : ℤ
  pub key_id : Option (List ℕ)
  pub asks : Bool

-- a call at a moment that asks a source for a key of this name, or for no certain one
abbrev pub call_at : Source → Option (List ℕ) → ℤ → SourceCall
call_at source key_id now =
    record { now = now; key_id = key_id; asks = is_due (found_at source now) key_id now }

-- calls that come no earlier than a moment
abbrev pub AreSince : ℤ → List SourceCall → Type 0
AreSince moment calls = All (λ call. IsTrue (int_le moment call.now)) calls

-- calls that come no earlier than a moment, and less than a wait after it
abbrev pub AreWithin : ℕ → ℤ → List SourceCall → Type 0
AreWithin wait moment calls =
    All (λ call. IsTrue (int_le moment call.now && int_lt call.now (moment +ℤ pos wait))) calls

module _ {RE T C : Type 0} (asks : KeySetQuery → C → Result (List ListedKey) (KeySetError RE T) → C → Type 0) where
  -- calls one after another, from what is kept and the client's state before the first to those after
  -- the last
  abbrev pub SourceRuns : Source → C → List SourceCall → C → Source → Type 0
  SourceRuns source before [] after kept = (after ≡ before) × (kept ≡ source)
  SourceRuns source before (call ∷ calls) after kept =
      (call.asks ≡ is_due (found_at source call.now) call.key_id call.now)
      × ((result : Result Unit (KeySourceError RE T)) × (middle : C) × (next : Source)
      × SourceCalls asks source call.key_id call.now before result middle next × SourceRuns next middle calls after kept)

  -- of any two requests the second comes at least the wait after the first; where the clock was set
  -- back, at least the wait after the earliest moment that a call told since the first
  abbrev pub EachTwoRequestsAreApart : Type 0
  EachTwoRequestsAreApart =
      (source kept : Source) (before after : C) (moment : ℤ) (first second : SourceCall) (between : List SourceCall)
      → let calls = first ∷ (between ++ second ∷ []) in SourceRuns source before calls after kept
      → IsTrue first.asks → IsTrue second.asks → AreSince moment calls
      → IsTrue (int_le (moment +ℤ pos source.wait) second.now)

  -- after a request, whatever calls come before the wait has passed, for whatever names, the client
  -- and the kept set are as they were
  abbrev pub EachFloodAsksOnce : Type 0
  EachFloodAsksOnce =
      (source next kept : Source) (before middle after : C) (first : SourceCall) (calls : List SourceCall)
      → SourceRuns source before (first ∷ []) middle next → IsTrue first.asks
      → AreWithin source.wait first.now calls → SourceRuns next middle calls after kept
      → (after ≡ middle) × (kept ≡ next)

  -- calls that make no request leave the client as it was
  abbrev pub EachOtherCallSendsNothing : Type 0
  EachOtherCallSendsNothing =
      (source kept : Source) (before after : C) (calls : List SourceCall) → SourceRuns source before calls after kept
      → All (λ call. call.asks ≡ false) calls → after ≡ before

  -- however the clock is set, the end of the wait that a call tells is at most one wait after that call
  abbrev pub EachEndIsWithinTheWait : Type 0
  EachEndIsWithinTheWait =
      (source kept : Source) (before after : C) (key_id : Option (List ℕ)) (now : ℤ) (until : Timestamp)
      → SourceCalls asks source key_id now before (Err (Waits (Some until))) after kept
      → IsTrue (int_le until.nanosecond (now +ℤ pos source.wait))
