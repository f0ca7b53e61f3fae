-- Each sending is paid for by a storing: what is at rest may be marked once, and what is marked may
-- be sent once.
use Rattle.std.proofs.Common.{◌≡◌, ℕ, zero, suc, ◌+◌, ◌≤◌, List, [], ◌∷◌, get_or, ap, arith}
use Rattle.oauth2_shared_token.specs.State.{Content, AtRest, InUse, Empty, Stored, Stage, NotBegun, Asking, Marking, Sending, Holding, Returning, Done, put, Shared, begin}
use Rattle.oauth2_shared_token.specs.Event.{SharedEvent, Asked, Marked, Sent, Given, Kept, Withdrew, GivenBack, SignedIn, Allowed, LoggedIn, LoggedOut, after}
use Rattle.oauth2_shared_token.specs.Run.{IsRun, has_refresh, times_sent, times_stored}
use Rattle.oauth2_shared_token.specs.Laws.{EachSendingWasStored, EachIsSentAtMostOnce}
use Rattle.oauth2_shared_token.proofs.Versions.{IsSound, sound_after, sound_begin, asked_is_stored}

module _ (r : List ℕ) where
  -- how many sendings of it are still open: to a renewal, to whoever marks what is at rest, to all
  abbrev held : Stage → ℕ
  held NotBegun = 0
  held (Asking version token) = 0
  held (Marking version token) = has_refresh r token
  held (Sending version) = 0
  held (Holding version new) = 0
  held (Returning version token) = has_refresh r token
  held Done = 0

  abbrev resting_in : Content → ℕ
  resting_in (AtRest token) = has_refresh r token
  resting_in (InUse token i) = 0
  resting_in Empty = 0

  abbrev resting : Stored → ℕ
  resting p = resting_in p.content

  abbrev open_by : List Stage → ℕ
  open_by [] = 0
  open_by (x ∷ xs) = held x + open_by xs

  goes_on : (xs : List Stage) (i : ℕ) (x y : Stage) → get_or xs i NotBegun ≡ x → open_by (put NotBegun xs i y) + held x ≡ open_by xs + held y
  goes_on [] zero x y is = let none : held NotBegun ≡ held x = ap held is in omega (arith, none)
  goes_on [] (suc i) x y is = let later = goes_on [] i x y is in omega (arith, later)
  goes_on (z ∷ zs) zero x y is = let here : held z ≡ held x = ap held is in omega (arith, here)
  goes_on (z ∷ zs) (suc i) x y is = let later = goes_on zs i x y is in omega (arith, later)

  pub each_is_paid : (s : Shared) (events : List SharedEvent) → IsSound s → IsRun s events → times_sent r events ≤ times_stored r events + (resting s.store + open_by s.renewals)
  each_is_paid s [] sound run = omega arith
  each_is_paid s (Asked i version token ∷ events) sound run =
      let later = each_is_paid (after s (Asked i version token)) events (sound_after s (Asked i version token) sound run.0) run.1 in
      let change = goes_on s.renewals i NotBegun (Asking version token) run.0.0 in
      omega (arith, later, change)
  each_is_paid s (Marked i version token ∷ events) sound run =
      let later = each_is_paid (after s (Marked i version token)) events (sound_after s (Marked i version token) sound run.0) run.1 in
      let change = goes_on s.renewals i (Asking version token) (Marking version token) run.0.0 in
      let rested : has_refresh r token ≡ resting s.store = ap resting (asked_is_stored s i version token sound run.0) in
      omega (arith, later, change, rested)
  each_is_paid s (Sent i version token ∷ events) sound run =
      let later = each_is_paid (after s (Sent i version token)) events (sound_after s (Sent i version token) sound run.0) run.1 in
      let change = goes_on s.renewals i (Marking version token) (Sending version) run.0 in
      omega (arith, later, change)
  each_is_paid s (Given i version new ∷ events) sound run =
      let later = each_is_paid (after s (Given i version new)) events (sound_after s (Given i version new) sound run.0) run.1 in
      let change = goes_on s.renewals i (Sending version) (Holding version new) run.0 in
      omega (arith, later, change)
  each_is_paid s (Kept i version new ∷ events) sound run =
      let later = each_is_paid (after s (Kept i version new)) events (sound_after s (Kept i version new) sound run.0) run.1 in
      let change = goes_on s.renewals i (Holding version new) Done run.0.0 in
      omega (arith, later, change)
  each_is_paid s (Withdrew i version token ∷ events) sound run =
      let later = each_is_paid (after s (Withdrew i version token)) events (sound_after s (Withdrew i version token) sound run.0) run.1 in
      let change = goes_on s.renewals i (Marking version token) (Returning version token) run.0 in
      omega (arith, later, change)
  each_is_paid s (GivenBack i version token ∷ events) sound run =
      let later = each_is_paid (after s (GivenBack i version token)) events (sound_after s (GivenBack i version token) sound run.0) run.1 in
      let change = goes_on s.renewals i (Returning version token) Done run.0.0 in
      omega (arith, later, change)
  each_is_paid s (SignedIn i version new ∷ events) sound run =
      let later = each_is_paid (after s (SignedIn i version new)) events (sound_after s (SignedIn i version new) sound run.0) run.1 in
      omega (arith, later)
  each_is_paid s (Allowed i version token ∷ events) sound run =
      let later = each_is_paid (after s (Allowed i version token)) events (sound_after s (Allowed i version token) sound run.0) run.1 in
      omega (arith, later)
  each_is_paid s (LoggedIn version new ∷ events) sound run =
      let later = each_is_paid (after s (LoggedIn version new)) events (sound_after s (LoggedIn version new) sound run.0) run.1 in
      omega (arith, later)
  each_is_paid s (LoggedOut version ∷ events) sound run =
      let later = each_is_paid (after s (LoggedOut version)) events (sound_after s (LoggedOut version) sound run.0) run.1 in
      omega (arith, later)

pub each_sending_was_stored : EachSendingWasStored
each_sending_was_stored start events r run =
    let paid = each_is_paid r (begin start) events (sound_begin start) run in
    omega (arith, paid)

pub each_is_sent_at_most_once : EachIsSentAtMostOnce
each_is_sent_at_most_once start events r run once =
    let paid = each_sending_was_stored start events r run in
    omega (arith, paid, once)
