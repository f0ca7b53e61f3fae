-- The laws of many calls, by induction over their list.
use Rattle.std.proofs.Common.{rules, ◌≡◌, List, [], ◌∷◌, ◌++◌, Option, Some, None, Result, ap, ◌∙◌, refl, ℕ}
use Rattle.std.specs.Prelude.{ℤ, map}
use Rattle.std.specs.Option.{option_or}
use Rattle.oauth2_wire.specs.declared.content_type.ReplyRule.{ReplyRule}
use Rattle.oauth2_wire.specs.declared.error.RequestTokenError.{RequestTokenError}
use Rattle.oauth2_wire.specs.Request.{RequestView}
use Rattle.oauth2_keeper.specs.Keeper.{Keeper, Given, Outcome, quiet, accepted, failed, kept_after, IsOutcome}
use Rattle.oauth2_keeper.specs.Runs.{Call, keeps_last, calls_at, replies_of_calls, reply_of_outcome, EachRunKeepsTheLast, EachRunFollowsFromItsReplies}

pub option_or-assoc : {X : Type 0} (a b c : Option X) → option_or a (option_or b c) ≡ option_or (option_or a b) c
option_or-assoc None b c = refl
option_or-assoc (Some x) b c = refl

-- one call, and the last of the calls after it
pub first_call : (keeper : Keeper) (now : ℤ) (outcome : Outcome) (calls : List Call) → keeps_last (kept_after keeper now outcome) calls ≡ keeps_last keeper (record { now = now; outcome = outcome } ∷ calls)
first_call keeper now quiet calls = search (rules, option_or-assoc)
first_call keeper now (accepted given) calls = search (rules, option_or-assoc)
first_call keeper now failed calls = search (rules, option_or-assoc)

module _ {D T RE C : Type 0} (asks : ReplyRule → (List ℕ → RequestView → Type 0) → List ℕ → C → Result D (RequestTokenError RE T) → C → Type 0) (told : D → Given) where
  pub keeps_the_last : EachRunKeepsTheLast asks told
  keeps_the_last keeper kept before after [] run = run.1
  keeps_the_last keeper kept before after (call ∷ calls) run =
      keeps_the_last (kept_after keeper call.now call.outcome) kept run.1 after calls run.3 ∙ first_call keeper call.now call.outcome calls

  -- the first call, and those after it
  pub one_more : (keeper : Keeper) (now : ℤ) (before after : C) (result : Result Unit (RequestTokenError RE T)) (outcome : Outcome) (calls : List Call)
      → IsOutcome asks told keeper now before result after outcome → calls ≡ calls_at (kept_after keeper now outcome) (map (λ call. call.now) calls) (replies_of_calls calls)
      → (record { now = now; outcome = outcome } ∷ calls) ≡ calls_at keeper (now ∷ map (λ call. call.now) calls) (reply_of_outcome outcome ++ replies_of_calls calls)
  one_more keeper now before after result quiet calls is rest = rw is.0 (ap (λ (l : List Call). record { now = now; outcome = quiet } ∷ l) rest)
  one_more keeper now before after result (accepted given) calls is rest = rw is.0 (ap (λ (l : List Call). record { now = now; outcome = accepted given } ∷ l) rest)
  one_more keeper now before after result failed calls is rest = rw is.0 (ap (λ (l : List Call). record { now = now; outcome = failed } ∷ l) rest)

  pub is_its_replies : EachRunFollowsFromItsReplies asks told
  is_its_replies keeper kept before after [] run = refl
  is_its_replies keeper kept before after (call ∷ calls) run =
      one_more keeper call.now before run.1 run.0 call.outcome calls run.2 (is_its_replies (kept_after keeper call.now call.outcome) kept run.1 after calls run.3)
