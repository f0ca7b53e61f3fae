-- What a renewal knows of itself is so after its steps, and stays so.
use Rattle.std.proofs.Common.{◌≡◌, ◌≢◌, ℕ, List, get_or, refl, ap, sym, subst, ◌∙◌, ◌⊎◌, inl, inr}
use Rattle.std.proofs.lemmas.Bool.{cases_eq}
use Rattle.oauth2_shared_token.specs.declared.renewal.Content.{Content}
use Rattle.oauth2_shared_token.specs.declared.renewal.Content.TheVariants as content
use Rattle.oauth2_shared_token.specs.declared.renewal.Learnt.{Learnt}
use Rattle.oauth2_shared_token.specs.declared.renewal.Learnt.TheVariants as learnt
use Rattle.oauth2_shared_token.specs.declared.renewal.Phase.{Phase}
use Rattle.oauth2_shared_token.specs.declared.renewal.Phase.TheVariants as phase
use Rattle.oauth2_shared_token.specs.declared.renewal.Told.{Told}
use Rattle.oauth2_shared_token.specs.declared.renewal.Told.TheVariants as told
use Rattle.oauth2_shared_token.specs.State.{Token, Stage, NotBegun, Asking, Marking, Sending, Holding, Returning, Done, put, Shared, stage_of}
use Rattle.oauth2_shared_token.specs.Event.{Asked, Marked, Sent, Given, Kept, Withdrew, GivenBack, SignedIn, Allowed, LoggedIn, LoggedOut, after}
use Rattle.oauth2_shared_token.specs.Run.{at_last}
use Rattle.oauth2_shared_token.specs.Renewal.{looked_at, read_again, sent_if, returned_if, again_in, Knows, events_of, next_turn, EachStepIsKnown, WhatIsKnownStays}
use Rattle.oauth2_shared_token.proofs.Places.{put-same, put-other}

looked : (s : Shared) (name version : ℕ) (c : Content Token) → Knows (at_last s (events_of name (looked_at version c).step)) name (looked_at version c).phase
looked s name version (content.AtRest token) = inl (put-same NotBegun s.renewals name (Asking version token))
looked s name version (content.Marked token other) = tt
looked s name version content.Empty = tt

sent : (s : Shared) (name version : ℕ) (t : Token) → stage_of (after s (Sent name version t)) name ≡ Sending version
sent s name version t = put-same NotBegun s.renewals name (Sending version)

known_sent : (s : Shared) (name version : ℕ) (token : Token) (l : Learnt) → Knows s name (phase.Asking version token) → Knows (at_last s (events_of name (sent_if version token l).step)) name (sent_if version token l).phase
known_sent s name version token learnt.Taken knows = sent s name version token
known_sent s name version token learnt.Lost knows = tt
known_sent s name version token learnt.Open knows = knows

known_returned : (s : Shared) (name version : ℕ) (token : Token) (l : Learnt) → Knows s name (phase.Leaving version token) → Knows (at_last s (events_of name (returned_if version token l).step)) name (returned_if version token l).phase
known_returned s name version token learnt.Taken knows = inl (put-same NotBegun s.renewals name (Returning version token))
known_returned s name version token learnt.Lost knows = tt
known_returned s name version token learnt.Open knows = knows

known_repeated : (s : Shared) (name : ℕ) (p : Phase Token) (t : Told Token) → Knows s name p → Knows (at_last s (events_of name (again_in p t).step)) name (again_in p t).phase
known_repeated s name p (told.Stored q) knows = tt
known_repeated s name p told.Done knows = tt
known_repeated s name p told.Nothing knows = knows
known_repeated s name p (told.Answer new) knows = tt
known_repeated s name p told.Stop knows = tt

pub step_is_known : (s : Shared) (name : ℕ) (p : Phase Token) (t : Told Token) → Knows s name p → Knows (at_last s (events_of name (next_turn name p t).step)) name (next_turn name p t).phase
step_is_known s name phase.Looking (told.Stored p) knows = looked s name p.version p.content
step_is_known s name phase.Looking told.Done knows = knows
step_is_known s name phase.Looking told.Nothing knows = knows
step_is_known s name phase.Looking (told.Answer t) knows = knows
step_is_known s name phase.Looking told.Stop knows = tt
step_is_known s name (phase.Asking version token) (told.Stored p) knows = known_sent s name version token (read_again name version p) knows
step_is_known s name (phase.Asking version token) told.Done knows = sent s name version token
step_is_known s name (phase.Asking version token) told.Nothing knows = knows
step_is_known s name (phase.Asking version token) (told.Answer t) knows = knows
step_is_known s name (phase.Asking version token) told.Stop knows = knows
step_is_known s name (phase.Leaving version token) (told.Stored p) knows = known_returned s name version token (read_again name version p) knows
step_is_known s name (phase.Leaving version token) told.Done knows = known_returned s name version token learnt.Taken knows
step_is_known s name (phase.Leaving version token) told.Nothing knows = knows
step_is_known s name (phase.Leaving version token) (told.Answer t) knows = knows
step_is_known s name (phase.Leaving version token) told.Stop knows = knows
step_is_known s name (phase.Sending version) (told.Stored p) knows = tt
step_is_known s name (phase.Sending version) told.Done knows = tt
step_is_known s name (phase.Sending version) told.Nothing knows = tt
step_is_known s name (phase.Sending version) (told.Answer t) knows = inl (put-same NotBegun s.renewals name (Holding version t))
step_is_known s name (phase.Sending version) told.Stop knows = tt
step_is_known s name (phase.Keeping version new) t knows = known_repeated s name (phase.Keeping version new) t knows
step_is_known s name (phase.Returning version token) t knows = known_repeated s name (phase.Returning version token) t knows
step_is_known s name phase.Over t knows = tt

pub each_step_is_known : EachStepIsKnown
each_step_is_known s name phase told reached knows so = step_is_known s name phase told knows

-- the stages that a renewal may have as it knows
abbrev may_be : Phase Token → Stage → Type 0
may_be phase.Looking x = x ≡ NotBegun
may_be (phase.Asking version token) x = (x ≡ Asking version token) ⊎ (x ≡ Marking version token)
may_be (phase.Leaving version token) x = (x ≡ Asking version token) ⊎ (x ≡ Marking version token)
may_be (phase.Sending version) x = x ≡ Sending version
may_be (phase.Keeping version new) x = (x ≡ Holding version new) ⊎ (x ≡ Done)
may_be (phase.Returning version token) x = (x ≡ Returning version token) ⊎ (x ≡ Done)
may_be phase.Over x = Unit {0}

to : (s : Shared) (name : ℕ) (p : Phase Token) → Knows s name p → may_be p (stage_of s name)
to s name phase.Looking k = k
to s name (phase.Asking version token) k = k
to s name (phase.Leaving version token) k = k
to s name (phase.Sending version) k = k
to s name (phase.Keeping version new) k = k
to s name (phase.Returning version token) k = k
to s name phase.Over k = k

from : (s : Shared) (name : ℕ) (p : Phase Token) → may_be p (stage_of s name) → Knows s name p
from s name phase.Looking k = k
from s name (phase.Asking version token) k = k
from s name (phase.Leaving version token) k = k
from s name (phase.Sending version) k = k
from s name (phase.Keeping version new) k = k
from s name (phase.Returning version token) k = k
from s name phase.Over k = k

marked_then : (p : Phase Token) (version : ℕ) (token : Token) (x : Stage) → x ≡ Asking version token → may_be p x → may_be p (Marking version token)
marked_then phase.Looking v t x is k = absurd cc
marked_then (phase.Asking version token) v t x is (inl k) = let e : Asking v t ≡ Asking version token = sym is ∙ k in inr cc
marked_then (phase.Asking version token) v t x is (inr k) = absurd cc
marked_then (phase.Leaving version token) v t x is (inl k) = let e : Asking v t ≡ Asking version token = sym is ∙ k in inr cc
marked_then (phase.Leaving version token) v t x is (inr k) = absurd cc
marked_then (phase.Sending version) v t x is k = absurd cc
marked_then (phase.Keeping version new) v t x is (inl k) = absurd cc
marked_then (phase.Keeping version new) v t x is (inr k) = absurd cc
marked_then (phase.Returning version token) v t x is (inl k) = absurd cc
marked_then (phase.Returning version token) v t x is (inr k) = absurd cc
marked_then phase.Over v t x is k = tt

kept_then : (p : Phase Token) (version : ℕ) (new : Token) (x : Stage) → x ≡ Holding version new → may_be p x → may_be p Done
kept_then phase.Looking v t x is k = absurd cc
kept_then (phase.Asking version token) v t x is (inl k) = absurd cc
kept_then (phase.Asking version token) v t x is (inr k) = absurd cc
kept_then (phase.Leaving version token) v t x is (inl k) = absurd cc
kept_then (phase.Leaving version token) v t x is (inr k) = absurd cc
kept_then (phase.Sending version) v t x is k = absurd cc
kept_then (phase.Keeping version new) v t x is k = inr refl
kept_then (phase.Returning version token) v t x is k = inr refl
kept_then phase.Over v t x is k = tt

returned_then : (p : Phase Token) (version : ℕ) (token : Token) (x : Stage) → x ≡ Returning version token → may_be p x → may_be p Done
returned_then phase.Looking v t x is k = absurd cc
returned_then (phase.Asking version token) v t x is (inl k) = absurd cc
returned_then (phase.Asking version token) v t x is (inr k) = absurd cc
returned_then (phase.Leaving version token) v t x is (inl k) = absurd cc
returned_then (phase.Leaving version token) v t x is (inr k) = absurd cc
returned_then (phase.Sending version) v t x is k = absurd cc
returned_then (phase.Keeping version new) v t x is k = inr refl
returned_then (phase.Returning version token) v t x is k = inr refl
returned_then phase.Over v t x is k = tt

other_place : (p : Phase Token) (xs : List Stage) (i name : ℕ) (x : Stage) → name ≢ i → may_be p (get_or xs name NotBegun) → may_be p (get_or (put NotBegun xs i x) name NotBegun)
other_place p xs i name x ne k = subst (may_be p) (sym (put-other NotBegun xs i name x ne)) k

this_place : (p : Phase Token) (xs : List Stage) (i name : ℕ) (x : Stage) → name ≡ i → may_be p x → may_be p (get_or (put NotBegun xs i x) name NotBegun)
this_place p xs i name x same k =
    let is : get_or (put NotBegun xs i x) name NotBegun ≡ x = rw same (put-same NotBegun xs i x) in
    subst (may_be p) (sym is) k

pub what_is_known_stays : WhatIsKnownStays
what_is_known_stays s name p (Asked i version token) knows can others =
    from (after s (Asked i version token)) name p (other_place p s.renewals i name (Asking version token) others (to s name p knows))
what_is_known_stays s name p (Marked i version token) knows can others =
    from (after s (Marked i version token)) name p (elim (cases_eq name i) [
      | inl same ↦ this_place p s.renewals i name (Marking version token) same (marked_then p version token (stage_of s name) (ap (λ (k : ℕ). stage_of s k) same ∙ can.0) (to s name p knows))
      | inr ne ↦ other_place p s.renewals i name (Marking version token) ne (to s name p knows)
    ])
what_is_known_stays s name p (Sent i version token) knows can others =
    from (after s (Sent i version token)) name p (other_place p s.renewals i name (Sending version) others (to s name p knows))
what_is_known_stays s name p (Given i version new) knows can others =
    from (after s (Given i version new)) name p (other_place p s.renewals i name (Holding version new) others (to s name p knows))
what_is_known_stays s name p (Kept i version new) knows can others =
    from (after s (Kept i version new)) name p (elim (cases_eq name i) [
      | inl same ↦ this_place p s.renewals i name Done same (kept_then p version new (stage_of s name) (ap (λ (k : ℕ). stage_of s k) same ∙ can.0) (to s name p knows))
      | inr ne ↦ other_place p s.renewals i name Done ne (to s name p knows)
    ])
what_is_known_stays s name p (Withdrew i version token) knows can others =
    from (after s (Withdrew i version token)) name p (other_place p s.renewals i name (Returning version token) others (to s name p knows))
what_is_known_stays s name p (GivenBack i version token) knows can others =
    from (after s (GivenBack i version token)) name p (elim (cases_eq name i) [
      | inl same ↦ this_place p s.renewals i name Done same (returned_then p version token (stage_of s name) (ap (λ (k : ℕ). stage_of s k) same ∙ can.0) (to s name p knows))
      | inr ne ↦ other_place p s.renewals i name Done ne (to s name p knows)
    ])
what_is_known_stays s name p (SignedIn i version new) knows can others = from (after s (SignedIn i version new)) name p (to s name p knows)
what_is_known_stays s name p (Allowed i version token) knows can others = from (after s (Allowed i version token)) name p (to s name p knows)
what_is_known_stays s name p (LoggedIn version new) knows can others = from (after s (LoggedIn version new)) name p (to s name p knows)
what_is_known_stays s name p (LoggedOut version) knows can others = from (after s (LoggedOut version)) name p (to s name p knows)
