-- Rounds of a keeper one after the other.
use Rattle.std.proofs.Common.{◌≡◌, ℕ, ◌+◌, ◌-◌, Bool, List, [], ◌∷◌, ◌++◌, map, length, Result, refl, ap, sym, ◌∙◌, subst, arith, append_assoc}
use Rattle.std.specs.Prelude.{ℤ}
use Rattle.std.specs.declared.time.Duration.{Duration}
use Rattle.std.proofs.lemmas.List.{append-nil}
use Rattle.jiff.specs.Types.{Timestamp}
use Rattle.oauth2_shared_token.specs.declared.renewal.Content.{Content}
use Rattle.oauth2_shared_token.specs.declared.renewal.StoredValue.{StoredValue}
use Rattle.oauth2_shared_keeper.specs.declared.held.Held.{Held}
use Rattle.oauth2_shared_keeper.specs.declared.outcome.Outcome.TheVariants.{Waits}
use Rattle.oauth2_shared_keeper.specs.declared.replaced.Replaced.{Replaced}
use Rattle.oauth2_shared_keeper.specs.declared.settings.KeeperSettings.{KeeperSettings}
use Rattle.oauth2_shared_keeper.specs.Call.{Call, Load, Replace, Refresh, StoreLeads, ClientLeads}
use Rattle.oauth2_shared_keeper.specs.Keeper.{Round, IsRound, Holds, calls_of, calls_in, Slept, KeeperCall, Asked, Lived, keeper_calls_of, keeper_calls_in}
use Rattle.oauth2_shared_keeper.specs.Keeper.{TimedLeads}
use Rattle.oauth2_shared_keeper.specs.private.Turns.{EachWaits, slept_calls}
use Rattle.oauth2_shared_keeper.proofs.Runs.{client-append}

module _ {T E : Type 0} where
  calls_in-push : (xs : List (Round T E)) (r : Round T E) → calls_in (xs ++ r ∷ []) ≡ calls_in xs ++ calls_of r
  calls_in-push [] r = append-nil (calls_of r)
  calls_in-push (x ∷ xs) r =
      ap (λ (l : List (Call T)). calls_of x ++ l) (calls_in-push xs r) ∙ sym (append_assoc (calls_of x) (calls_in xs) (calls_of r))

  keeper_calls_in-push : (wait : Duration) (xs : List (Round T E)) (r : Round T E)
      → keeper_calls_in wait (xs ++ r ∷ []) ≡ slept_calls wait xs ++ keeper_calls_of r
  keeper_calls_in-push wait [] r = refl
  keeper_calls_in-push wait (x ∷ []) r = sym (append_assoc (keeper_calls_of x) (Lived (Slept wait) ∷ []) (keeper_calls_of r))
  keeper_calls_in-push wait (x ∷ y ∷ ys) r =
      ap (λ (l : List (KeeperCall T)). keeper_calls_of x ++ Lived (Slept wait) ∷ l) (keeper_calls_in-push wait (y ∷ ys) r)
      ∙ sym (append_assoc (keeper_calls_of x) (Lived (Slept wait) ∷ slept_calls wait (y ∷ ys)) (keeper_calls_of r))

  slept_calls-push : (wait : Duration) (xs : List (Round T E)) (r : Round T E)
      → slept_calls wait (xs ++ r ∷ []) ≡ slept_calls wait xs ++ (keeper_calls_of r ++ Lived (Slept wait) ∷ [])
  slept_calls-push wait [] r = refl
  slept_calls-push wait (x ∷ xs) r =
      ap (λ (l : List (KeeperCall T)). keeper_calls_of x ++ Lived (Slept wait) ∷ l) (slept_calls-push wait xs r)
      ∙ sym (append_assoc (keeper_calls_of x) (Lived (Slept wait) ∷ slept_calls wait xs) (keeper_calls_of r ++ Lived (Slept wait) ∷ []))

  -- a round more, of the client
  pub client-push : {C CE : Type 0} (refreshes : C → T → Result T CE → C → Type 0) (c mid last : C) (xs : List (Round T E)) (r : Round T E)
      → ClientLeads refreshes c (calls_in xs) mid → ClientLeads refreshes mid (calls_of r) last
      → ClientLeads refreshes c (calls_in (xs ++ r ∷ [])) last
  client-push {C} {CE} refreshes c mid last xs r first then =
      subst (λ (l : List (Call T)). ClientLeads refreshes c l last) (sym (calls_in-push xs r))
      (client-append refreshes c mid last (calls_in xs) (calls_of r) first then)

module _ {T S SE : Type 0} (loads : S → List ℕ → Result (StoredValue T) SE → S → Type 0)
    (replaces : S → List ℕ → ℕ → Content T → Result Replaced SE → S → Type 0)
    (reads : S → Timestamp → S → Type 0) (sleeps : S → Duration → S → Type 0) (draws : S → ℕ → S → Type 0) (name : List ℕ) where
  timed-append : (s mid last : S) (e f : List (KeeperCall T)) → TimedLeads loads replaces reads sleeps draws name s e mid
      → TimedLeads loads replaces reads sleeps draws name mid f last
      → TimedLeads loads replaces reads sleeps draws name s (e ++ f) last
  timed-append s mid last [] f first then =
      subst (λ (u : S). TimedLeads loads replaces reads sleeps draws name u f last) (sym first) then
  timed-append s mid last (Asked call ∷ e) f (next, h, first) then = (next, h, timed-append next mid last e f first then)
  timed-append s mid last (Lived call ∷ e) f (next, h, first) then = (next, h, timed-append next mid last e f first then)

  -- the calls of a renewal
  pub timed-asked : (s last : S) (calls : List (Call T)) → StoreLeads loads replaces name s calls last
      → TimedLeads loads replaces reads sleeps draws name s (map (λ call. Asked call) calls) last
  timed-asked s last [] h = h
  timed-asked s last (Load shown ∷ calls) (answer, next, told, is, rest) =
      (next, (answer, next, told, is, refl), timed-asked next last calls rest)
  timed-asked s last (Replace version content done ∷ calls) (answer, next, told, is, rest) =
      (next, (answer, next, told, is, refl), timed-asked next last calls rest)
  timed-asked s last (Refresh token given ∷ calls) h = (s, refl, timed-asked s last calls h)

  -- the last round, and one after which the keeper sleeps
  pub timed-last : {E : Type 0} (s mid last : S) (wait : Duration) (xs : List (Round T E)) (r : Round T E)
      → TimedLeads loads replaces reads sleeps draws name s (slept_calls wait xs) mid
      → TimedLeads loads replaces reads sleeps draws name mid (keeper_calls_of r) last
      → TimedLeads loads replaces reads sleeps draws name s (keeper_calls_in wait (xs ++ r ∷ [])) last
  timed-last s mid last wait xs r first then =
      subst (λ (l : List (KeeperCall T)). TimedLeads loads replaces reads sleeps draws name s l last) (sym (keeper_calls_in-push wait xs r))
      (timed-append s mid last (slept_calls wait xs) (keeper_calls_of r) first then)

  pub timed-slept : {E : Type 0} (s mid next last : S) (wait : Duration) (xs : List (Round T E)) (r : Round T E)
      → TimedLeads loads replaces reads sleeps draws name s (slept_calls wait xs) mid
      → TimedLeads loads replaces reads sleeps draws name mid (keeper_calls_of r) next
      → sleeps next wait last
      → TimedLeads loads replaces reads sleeps draws name s (slept_calls wait (xs ++ r ∷ [])) last
  timed-slept s mid next last wait xs r first then slept =
      subst (λ (l : List (KeeperCall T)). TimedLeads loads replaces reads sleeps draws name s l last) (sym (slept_calls-push wait xs r))
      (timed-append s mid last (slept_calls wait xs) (keeper_calls_of r ++ Lived (Slept wait) ∷ []) first
      (timed-append mid next last (keeper_calls_of r) (Lived (Slept wait) ∷ []) then (last, (last, slept, refl), refl)))

module _ {T E : Type 0} (is_good : T → ℤ → ℕ → Bool) (settings : KeeperSettings) where
  pub each_waits-push : (xs : List (Round T E)) (r : Round T E) (seen : Held T E) → EachWaits is_good settings xs
      → IsRound is_good settings r (Waits seen) → EachWaits is_good settings (xs ++ r ∷ [])
  each_waits-push [] r seen waits here = ((seen, here), tt)
  each_waits-push (x ∷ xs) r seen waits here = (waits.0, each_waits-push xs r seen waits.1 here)

  -- the last round, after rounds that wait
  pub holds_after : (xs : List (Round T E)) (r : Round T E) (left n : ℕ) (result : Held T E) → EachWaits is_good settings xs
      → n ≡ length xs + left
      → Holds is_good settings left (r ∷ []) result → Holds is_good settings n (xs ++ r ∷ []) result
  holds_after [] r left n result waits sum last =
      let e : left ≡ n = omega arith in subst (λ (k : ℕ). Holds is_good settings k (r ∷ []) result) e last
  holds_after (x ∷ []) r left n result waits sum last =
      let e : left ≡ n - 1 = omega arith in (waits.0, subst (λ (k : ℕ). Holds is_good settings k (r ∷ []) result) e last)
  holds_after (x ∷ y ∷ ys) r left n result waits sum last =
      let e : n - 1 ≡ length (y ∷ ys) + left = omega arith in
      (waits.0, holds_after (y ∷ ys) r left (n - 1) result waits.1 e last)
