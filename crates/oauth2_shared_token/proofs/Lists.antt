-- Two lists of events one after the other.
use Rattle.std.proofs.Common.{◌≡◌, List, [], ◌∷◌, ◌++◌, refl}
use Rattle.oauth2_shared_token.specs.State.{Shared}
use Rattle.oauth2_shared_token.specs.Event.{SharedEvent, after}
use Rattle.oauth2_shared_token.specs.Run.{IsRun, at_last}

pub run-append : (s : Shared) (xs ys : List SharedEvent) → IsRun s xs → IsRun (at_last s xs) ys → IsRun s (xs ++ ys)
run-append s [] ys first then = then
run-append s (x ∷ xs) ys first then = (first.0, run-append (after s x) xs ys first.1 then)

pub run-split : (s : Shared) (xs ys : List SharedEvent) → IsRun s (xs ++ ys) → IsRun s xs × IsRun (at_last s xs) ys
run-split s [] ys run = (tt, run)
run-split s (x ∷ xs) ys run = let later = run-split (after s x) xs ys run.1 in ((run.0, later.0), later.1)

pub at_last-append : (s : Shared) (xs ys : List SharedEvent) → at_last s (xs ++ ys) ≡ at_last (at_last s xs) ys
at_last-append s [] ys = refl
at_last-append s (x ∷ xs) ys = at_last-append (after s x) xs ys
