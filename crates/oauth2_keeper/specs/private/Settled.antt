-- What a keeper keeps after the answer to its request.
use Rattle.std.specs.Prelude.{◌≡◌, ℤ, Bool, false, IsTrue, Option, None, Result, Ok, Err, List, ℕ, if◌then◌else◌}
use Rattle.oauth2_wire.specs.declared.content_type.ReplyRule.{ReplyRule}
use Rattle.oauth2_wire.specs.declared.error.RequestTokenError.{RequestTokenError}
use Rattle.oauth2_wire.specs.Request.{RequestView}
use Rattle.oauth2_keeper.specs.Keeper.{Keeper, Given, accept, Renews}
use Rattle.oauth2_keeper.specs.Patience.{Patient, is_usable_if_any, other_type_call}
use Rattle.oauth2_keeper.specs.declared.patient_keeper.PatientError.{PatientError}
use Rattle.oauth2_keeper.specs.declared.patient_keeper.PatientError.TheVariants.{Request, Waits, OtherTokenType}

module _ {D T RE : Type 0} (told : D → Given) where
  -- what a call returns and keeps, by the answer to its request
  abbrev pub Settles : Keeper → ℤ → Result D (RequestTokenError RE T)
      → Result Unit (RequestTokenError RE T) → Keeper → Type 0
  Settles before now (Ok reply) (Ok done) after = after ≡ accept before now (told reply)
  Settles before now (Ok reply) (Err error) after = ⊥
  Settles before now (Err fault) (Ok done) after = ⊥
  Settles before now (Err fault) (Err error) after = (error ≡ fault) × (after ≡ before)

module _ {D T RE C : Type 0} (asks : ReplyRule → (List ℕ → RequestView → Type 0) → List ℕ → C → Result D (RequestTokenError RE T) → C → Type 0) (told : D → Given) where
  -- another token is requested, and what the call returns and keeps by the answer
  abbrev pub RenewsAndSettles : Keeper → ℤ → C → Result Unit (RequestTokenError RE T) → C → Keeper
      → Type 0
  RenewsAndSettles keeper now before result after kept =
      (answer : Result D (RequestTokenError RE T)) × Renews asks keeper before answer after × Settles told keeper now answer result kept

-- what a patient keeper returns and keeps after a call of its keeper without an error, by the type
-- of the kept token; and whether the token was good before that call
abbrev pub SettlesByType : {RE T : Type 0} → Patient → ℤ → Bool → Result Unit (PatientError RE T)
    → Patient → Type 0
SettlesByType before now was_good (Ok done) after =
    IsTrue (is_usable_if_any before.token_types before.keeper.token)
    × (after ≡ record before { failed_at = if was_good then before.failed_at else None })
SettlesByType before now was_good (Err OtherTokenType) after =
    (is_usable_if_any before.token_types before.keeper.token ≡ false)
    × (after ≡ other_type_call before now before.keeper)
SettlesByType before now was_good (Err (Request error)) after = ⊥
SettlesByType before now was_good (Err (Waits until)) after = ⊥
