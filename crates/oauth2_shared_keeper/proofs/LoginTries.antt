-- A login of which somebody else was first is tried again with the same token.
use Rattle.std.proofs.Common.{◌≡◌, inl, inr, ℕ, zero, suc, ◌-◌, List, Option, Some, Result, Ok, Err, refl, sym, subst, arith}
use Rattle.oauth2_shared_token.specs.declared.renewal.Content.{Content}
use Rattle.oauth2_shared_token.specs.declared.renewal.StoredValue.{StoredValue}
use Rattle.oauth2_shared_keeper.specs.declared.replaced.Replaced.{Replaced}
use Rattle.oauth2_shared_keeper.specs.declared.replaced.Replaced.TheVariants as replaced
use Rattle.oauth2_shared_keeper.specs.declared.logged_in.LoggedIn.{LoggedIn}
use Rattle.oauth2_shared_keeper.specs.declared.logged_in.LoggedIn.TheVariants as logged_in
use Rattle.oauth2_shared_keeper.specs.declared.logged_in.LoggedOut.{LoggedOut}
use Rattle.oauth2_shared_keeper.specs.declared.logged_in.LoggedOut.TheVariants as logged_out
use Rattle.oauth2_shared_keeper.specs.Logins.{token_told, PutsAt, DropsAt, Shows, LogsIn, LogsOut}

same_told : {T E : Type 0} (version : ℕ) (token refused : T) (answer : Result Replaced E) → logged_in.Refused refused ≡ token_told version token answer
    → refused ≡ token
same_told version token refused (Ok replaced.Done) e = absurd (let k : logged_in.Refused refused ≡ logged_in.Done = e in cc)
same_told version token refused (Ok replaced.Refused) e = let k : logged_in.Refused refused ≡ logged_in.Refused token = e in cc
same_told version token refused (Err error) e = absurd (let k : logged_in.Refused refused ≡ logged_in.Unclear version token = e in cc)

module _ {T S E : Type 0} (loads : S → List ℕ → Result (StoredValue T) E → S → Type 0)
    (replaces : S → List ℕ → ℕ → Content T → Result Replaced E → S → Type 0) (name : List ℕ) where
  same_refused : (version : ℕ) (token refused : T) (before after : S) → PutsAt replaces name version token before (logged_in.Refused refused) after
      → refused ≡ token
  same_refused version token refused before after (inl (last, is, same)) =
      absurd (let k : logged_in.Refused refused ≡ logged_in.NoNextVersion token = is in cc)
  same_refused version token refused before after (inr (more, (answer, asked, is))) = same_told version token refused answer is

  some_left : (tries : ℕ) → (tries ≡ 0 → ⊥) → tries ≡ suc (tries - 1)
  some_left zero some = absurd (some refl)
  some_left (suc n) some = omega arith

  pub logs_in_again : (tries : ℕ) (token refused : T) (before loaded next after : S) (shown : Option (StoredValue T)) (p : StoredValue T) (told : LoggedIn T)
      → (tries ≡ 0 → ⊥) → Shows loads replaces name before shown loaded → shown ≡ Some p
      → PutsAt replaces name p.version token loaded (logged_in.Refused refused) next
      → LogsIn loads replaces name (tries - 1) refused next told after → LogsIn loads replaces name tries token before told after
  logs_in_again tries token refused before loaded next after shown p told left shows is puts again =
      let same = same_refused p.version token refused loaded next puts in
      subst (λ (n : ℕ). LogsIn loads replaces name n token before told after) (sym (some_left tries left)) (
        Some p,
        loaded,
        subst (λ (o : Option (StoredValue T)). Shows loads replaces name before o loaded) is shows,
        inr (
          next,
          subst (λ (t : T). PutsAt replaces name p.version token loaded (logged_in.Refused t) next) same puts,
          subst (λ (t : T). LogsIn loads replaces name (tries - 1) t next told after) same again,
        ),
      )

  pub logs_out_again : (tries : ℕ) (before loaded next after : S) (shown : Option (StoredValue T)) (p : StoredValue T) (told : LoggedOut T)
      → (tries ≡ 0 → ⊥) → Shows loads replaces name before shown loaded → shown ≡ Some p
      → DropsAt replaces name p.version p.content loaded logged_out.Refused next
      → LogsOut loads replaces name (tries - 1) next told after → LogsOut loads replaces name tries before told after
  logs_out_again tries before loaded next after shown p told left shows is drops again =
      subst (λ (n : ℕ). LogsOut loads replaces name n before told after) (sym (some_left tries left)) (
        Some p,
        loaded,
        subst (λ (o : Option (StoredValue T)). Shows loads replaces name before o loaded) is shows,
        inr (next, drops, again),
      )
