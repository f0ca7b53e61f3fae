-- Calls that hand out the token, by induction over the times of the calls.
use Rattle.std.proofs.Common.{◌≡◌, List, [], ◌∷◌, Option, Some, None, Result, Ok, Err, ap, subst, sym, refl, inl, inr, ℕ}
use Rattle.std.specs.Prelude.{ℤ, IsSomeAnd}
use Rattle.std.specs.Borrow.{Bor}
use Rattle.oauth2_wire.specs.declared.content_type.ReplyRule.{ReplyRule}
use Rattle.oauth2_wire.specs.declared.error.RequestTokenError.{RequestTokenError}
use Rattle.oauth2_wire.specs.Request.{RequestView}
use Rattle.oauth2_keeper.specs.Keeper.{Keeper, Given, KeeperCalls, Answers, AnswersInSlot}
use Rattle.oauth2_keeper.specs.Lends.{LendsText, HandsOut, LendingRuns, RunsAt, EachLendingRunIsARun}
use Rattle.oauth2_keeper.specs.Runs.{Call, Runs}

module _ {D T RE C : Type 0} (asks : ReplyRule → (List ℕ → RequestView → Type 0) → List ℕ → C → Result D (RequestTokenError RE T) → C → Type 0) (told : D → Given) where
  -- what a call is that hands out the token
  abbrev Made : Keeper → ℤ → C → C → Keeper → Type 0
  Made keeper now before after kept =
      (result : Result Unit (RequestTokenError RE T)) × KeeperCalls asks told keeper now before result after kept

  made_of_answer : (keeper kept : Keeper) (now : ℤ) (before after : C) (result : Result (Bor (List ℕ)) (RequestTokenError RE T))
      → Answers asks told LendsText keeper now before result after kept → Made keeper now before after kept
  made_of_answer keeper kept now before after (Ok token) answers = (Ok tt, answers.0)
  made_of_answer keeper kept now before after (Err error) answers = (Err error, answers.0)

  made_of_slot : (keeper kept : Keeper) (now : ℤ) (before after : C) (lent : Option (Bor (List ℕ))) (slot : Option (RequestTokenError RE T))
      → AnswersInSlot asks told LendsText keeper now before lent slot after kept → Made keeper now before after kept
  made_of_slot keeper kept now before after (Some token) slot answers = (Ok tt, answers.0.0)
  made_of_slot keeper kept now before after None (Some error) answers = (Err error, answers.0)
  made_of_slot keeper kept now before after None None answers = absurd answers.0

  made : (keeper kept : Keeper) (now : ℤ) (before after : C) → HandsOut asks told keeper now before after kept → Made keeper now before after kept
  made keeper kept now before after (inl (lent, slot, answers)) = made_of_slot keeper kept now before after lent slot answers
  made keeper kept now before after (inr (result, answers)) = made_of_answer keeper kept now before after result answers

  one_call : (keeper next kept : Keeper) (now : ℤ) (before middle after : C) (moments : List ℤ) → Made keeper now before middle next
      → RunsAt asks told next middle moments after kept → RunsAt asks told keeper before (now ∷ moments) after kept
  one_call keeper next kept now before middle after moments (result, (outcome, is, same)) (calls, times, run) = (
    record { now = now; outcome = outcome } ∷ calls,
    ap (λ (l : List ℤ). now ∷ l) times,
    (result, middle, is, subst (λ (k : Keeper). Runs asks told k middle calls after kept) same run),
  )

  pub is_a_run : EachLendingRunIsARun asks told
  is_a_run keeper kept before after [] run = ([], refl, run)
  is_a_run keeper kept before after (now ∷ moments) (middle, next, hands, rest) =
      one_call keeper next kept now before middle after moments (made keeper next now before middle hands) (is_a_run next kept middle after moments rest)
