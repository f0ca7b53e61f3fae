-- What is stored is the last that came to be stored: a mark keeps the token.
use Rattle.std.proofs.Common.{◌≡◌, List, [], ◌∷◌, refl, ap, ◌∙◌}
use Rattle.oauth2_shared_token.specs.State.{token_in, Stored, Shared, begin}
use Rattle.oauth2_shared_token.specs.Event.{SharedEvent, Asked, Marked, Sent, Given, Kept, Withdrew, GivenBack, SignedIn, Allowed, LoggedIn, LoggedOut, after}
use Rattle.oauth2_shared_token.specs.Run.{IsRun, at_last, newest}
use Rattle.oauth2_shared_token.specs.Laws.{WhatIsStoredIsTheNewest}
use Rattle.oauth2_shared_token.proofs.Versions.{IsSound, sound_after, sound_begin, asked_is_stored, returned_is_stored}

pub newest_from : (s : Shared) (events : List SharedEvent) → IsSound s → IsRun s events → token_in (at_last s events).store.content ≡ newest (token_in s.store.content) events
newest_from s [] sound run = refl
newest_from s (Asked i version token ∷ events) sound run =
    newest_from (after s (Asked i version token)) events (sound_after s (Asked i version token) sound run.0) run.1
newest_from s (Marked i version token ∷ events) sound run =
    newest_from (after s (Marked i version token)) events (sound_after s (Marked i version token) sound run.0) run.1 ∙
    ap (λ (p : Stored). newest (token_in p.content) events) (asked_is_stored s i version token sound run.0)
newest_from s (Sent i version token ∷ events) sound run =
    newest_from (after s (Sent i version token)) events (sound_after s (Sent i version token) sound run.0) run.1
newest_from s (Given i version new ∷ events) sound run =
    newest_from (after s (Given i version new)) events (sound_after s (Given i version new) sound run.0) run.1
newest_from s (Kept i version new ∷ events) sound run =
    newest_from (after s (Kept i version new)) events (sound_after s (Kept i version new) sound run.0) run.1
newest_from s (Withdrew i version token ∷ events) sound run =
    newest_from (after s (Withdrew i version token)) events (sound_after s (Withdrew i version token) sound run.0) run.1
newest_from s (GivenBack i version token ∷ events) sound run =
    newest_from (after s (GivenBack i version token)) events (sound_after s (GivenBack i version token) sound run.0) run.1 ∙
    ap (λ (p : Stored). newest (token_in p.content) events) (returned_is_stored s i version token sound run.0)
newest_from s (SignedIn i version new ∷ events) sound run =
    newest_from (after s (SignedIn i version new)) events (sound_after s (SignedIn i version new) sound run.0) run.1
newest_from s (Allowed i version token ∷ events) sound run =
    newest_from (after s (Allowed i version token)) events (sound_after s (Allowed i version token) sound run.0) run.1
newest_from s (LoggedIn version new ∷ events) sound run =
    newest_from (after s (LoggedIn version new)) events (sound_after s (LoggedIn version new) sound run.0) run.1
newest_from s (LoggedOut version ∷ events) sound run =
    newest_from (after s (LoggedOut version)) events (sound_after s (LoggedOut version) sound run.0) run.1

pub what_is_stored_is_the_newest : WhatIsStoredIsTheNewest
what_is_stored_is_the_newest start events run = newest_from (begin start) events (sound_begin start) run
