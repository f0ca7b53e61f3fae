-- What a keeper is once the token that a call lent is given back, and many such calls.
use Rattle.std.specs.Prelude.{◌≡◌, ◌⊎◌, ℕ, ℤ, List, [], ◌∷◌, map, Option, Result}
use Rattle.std.specs.Borrow.{Fml, RattleType, Bor, MutBor}
use Rattle.std.specs.Io.BufRead.{Rests}
use mir.Syntax.{named}
use Rattle.std.specs.declared.cmp.PartialEq as eq
use Rattle.std.specs.declared.fmt.Debug as debug
use Rattle.oauth2.specs.declared.FromJson as from
use Rattle.oauth2.specs.declared.ToJson as to
use Rattle.oauth2.specs.declared.TokenResponse as response
use Rattle.oauth2.specs.declared.endpoint.EndpointState as endpoint
use Rattle.oauth2_types.specs.declared.try_clone.TryClone as clone
use Rattle.oauth2_wire.specs.declared.content_type.ReplyRule.{ReplyRule}
use Rattle.oauth2_wire.specs.declared.error.RequestTokenError.{RequestTokenError}
use Rattle.oauth2_wire.specs.Request.{RequestView}
use Rattle.oauth2_keeper.specs.contracts.token_keeper.TokenKeeper.{the_row}
use Rattle.oauth2_keeper.specs.Keeper.{Keeper, Given, Answers, AnswersInSlot}
use Rattle.oauth2_keeper.specs.Runs.{Call, Runs}

-- a lent token is the text of the kept one
abbrev pub LendsText : List ℕ → Bor (List ℕ) → Type 0
LendsText text token = token.now ≡ text

module _ (TE TR TIR RT TRE A D I R Kind : RattleType)
    (t : response.Ghosts TR.Denot Kind.Denot) (tf : from.Ghosts TR.Denot) (tj : to.Ghosts TR.Denot) (td : debug.Ghosts TR.Denot)
    (kf : from.Ghosts Kind.Denot) (kj : to.Ghosts Kind.Denot) (kd : debug.Ghosts Kind.Denot) (ke : eq.Ghosts Kind.Denot) (kc : clone.Ghosts Kind.Denot)
    (a : endpoint.Ghosts A.Denot) (d : endpoint.Ghosts D.Denot) (i : endpoint.Ghosts I.Denot) (r : endpoint.Ghosts R.Denot) where
  -- the keeper's type as a call of it names it: its own lifetime is that after the `&mut self`;
  -- `Kind` is the type of the token types
  abbrev pub keeper_row : RattleType
  keeper_row =
      the_row (record { mir = named 1; lft = [] }) TE TR TIR RT TRE A D I R Kind t tf tj td kf kj kd ke kc a d i r

  module _ {Reply T RE C : Type 0} (asks : ReplyRule → (List ℕ → RequestView → Type 0) → List ℕ → C → Result Reply (RequestTokenError RE T) → C → Type 0) (told : Reply → Given) where
    -- a call at `now` that lends the kept token, and what is kept once that is given back
    abbrev pub LendsToken : MutBor Keeper → ℤ → C → Option (Bor (List ℕ))
        → Option (RequestTokenError RE T) → C → Fml
    LendsToken keeper now before lent slot after =
        Rests keeper_row keeper (AnswersInSlot asks told LendsText keeper.now now before lent slot after)

module _ {Reply T RE C : Type 0} (asks : ReplyRule → (List ℕ → RequestView → Type 0) → List ℕ → C → Result Reply (RequestTokenError RE T) → C → Type 0) (told : Reply → Given) where
  -- a call at `now` that hands out the kept token: it lends it, or returns it as `token` does
  abbrev pub HandsOut : Keeper → ℤ → C → C → Keeper → Type 0
  HandsOut keeper now before after kept =
      ((lent : Option (Bor (List ℕ))) × (slot : Option (RequestTokenError RE T))
      × AnswersInSlot asks told LendsText keeper now before lent slot after kept)
      ⊎ ((result : Result (Bor (List ℕ)) (RequestTokenError RE T))
      × Answers asks told LendsText keeper now before result after kept)

  -- such calls at these times, one after another
  abbrev pub LendingRuns : Keeper → C → List ℤ → C → Keeper → Type 0
  LendingRuns keeper before [] after kept = (after ≡ before) × (kept ≡ keeper)
  LendingRuns keeper before (now ∷ moments) after kept =
      (middle : C) × (next : Keeper) × HandsOut keeper now before middle next
      × LendingRuns next middle moments after kept

  -- these are the calls at these times
  abbrev pub RunsAt : Keeper → C → List ℤ → C → Keeper → Type 0
  RunsAt keeper before moments after kept =
      (calls : List Call) × (map (λ call. call.now) calls ≡ moments)
      × Runs asks told keeper before calls after kept

  -- calls that hand out the token are calls at the same times, so the laws of these hold for them
  abbrev pub EachLendingRunIsARun : Type 0
  EachLendingRunIsARun =
      (keeper kept : Keeper) (before after : C) (moments : List ℤ)
      → LendingRuns keeper before moments after kept → RunsAt keeper before moments after kept
