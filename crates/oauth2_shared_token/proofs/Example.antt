-- Runs in which a token is renewed once, and the next renewal comes too late with what it was given.
use Rattle.std.proofs.Common.{◌≡◌, ℕ, List, [], ◌∷◌, Some, None, refl, arith}
use Rattle.std.specs.Prelude.{pos}
use Rattle.oauth2_shared_token.specs.declared.renewal.Content.TheVariants as content
use Rattle.oauth2_shared_token.specs.declared.renewal.Told.TheVariants as told
use Rattle.oauth2_shared_token.specs.State.{Token, at_rest, begin}
use Rattle.oauth2_shared_token.specs.Event.{SharedEvent, Asked, Marked, Sent, Given, Kept, SignedIn}
use Rattle.oauth2_shared_token.specs.Run.{IsRun, at_last, times_sent, newest_given}
use Rattle.oauth2_shared_token.specs.Fleet.{Happening, Turned, Took, ToMark, ToKeep, SignsIn, fleet_of, IsFleetRun, all_events}

abbrev token : ℕ → Token
token n = record { access = n ∷ []; refresh = n ∷ []; accepted_at = pos n; lifetime = None }

abbrev events : List SharedEvent
events =
    Asked 0 0 (token 0) ∷ Asked 1 0 (token 0) ∷ Marked 1 0 (token 0) ∷ Sent 1 0 (token 0) ∷ Given 1 0 (token 1)
    ∷ Kept 1 0 (token 1) ∷ Asked 2 2 (token 1) ∷ Marked 2 2 (token 1) ∷ SignedIn 2 3 (token 2) ∷ Sent 2 2 (token 1)
    ∷ Given 2 2 (token 3) ∷ []

is_run : IsRun (begin (token 0)) events
is_run = (
  (refl, (0, omega arith, refl)),
  (
    (refl, (0, omega arith, refl)),
    (
      (refl, refl),
      (
        refl,
        (
          refl,
          (
            (refl, refl),
            ((refl, (2, omega arith, refl)), ((refl, refl), ((((token 1), (3, omega arith, refl)), refl), (refl, (refl, tt))))),
          ),
        ),
      ),
    ),
  ),
)

sent_once : times_sent (0 ∷ []) events ≡ 1
sent_once = refl

stored_at_last : (at_last (begin (token 0)) events).store ≡ at_rest 4 (token 2)
stored_at_last = refl

-- the late token of the renewal that a caller had answered for is the newest given, and isn't stored
late : newest_given (Some (token 0)) events ≡ Some (token 3)
late = refl

-- a fleet that makes these events: two machines read version 0 at rest, and the store takes the mark of the
-- second, which reads it, since the reply was lost
abbrev happenings : List Happening
happenings =
    Turned 0 (told.Stored (record { version = 0; content = content.AtRest (token 0) }))
    ∷ Turned 1 (told.Stored (record { version = 0; content = content.AtRest (token 0) }))
    ∷ Took (ToMark 1 0 (token 0))
    ∷ Turned 1 (told.Stored (record { version = 1; content = content.Marked (token 0) 1 }))
    ∷ Turned 1 (told.Answer (token 1))
    ∷ Took (ToKeep 1 0 (token 1))
    ∷ Turned 2 (told.Stored (record { version = 2; content = content.AtRest (token 1) }))
    ∷ Took (ToMark 2 2 (token 1))
    ∷ SignsIn 2 3 (token 2)
    ∷ Turned 2 told.Done
    ∷ Turned 2 (told.Answer (token 3))
    ∷ []

fleet_runs : IsFleetRun (fleet_of (token 0)) happenings
fleet_runs = (
  (0, omega arith, refl),
  (
    (0, omega arith, refl),
    (
      ((1, omega arith, refl), refl),
      (
        (1, omega arith, refl),
        (
          tt,
          (
            ((2, omega arith, refl), refl),
            (
              (2, omega arith, refl),
              (
                ((3, omega arith, refl), refl),
                ((((token 1), (3, omega arith, refl)), refl), ((3, omega arith, refl), (tt, tt))),
              ),
            ),
          ),
        ),
      ),
    ),
  ),
)

makes_the_events : all_events (fleet_of (token 0)) happenings ≡ events
makes_the_events = refl
