-- The calls of a keeper in order, and those of its rounds.
use Rattle.std.proofs.Common.{◌≡◌, List, [], ◌∷◌, ◌++◌, map, Some, refl, ap, sym, ◌∙◌}
use Rattle.std.specs.declared.time.Duration.{Duration}
use Rattle.std.proofs.lemmas.List.{append-nil}
use Rattle.oauth2_shared_keeper.specs.Call.{Call, Load}
use Rattle.oauth2_shared_keeper.specs.Keeper.{Round, Blind, Seen, Renewing, calls_of, calls_in, WorldCall, Reading, Slept, Drawn, events_of, events_in}
use Rattle.oauth2_shared_keeper.specs.Keeper.{KeeperCall, Asked, Lived, keeper_calls_of, keeper_calls_in}
use Rattle.oauth2_shared_keeper.specs.KeeperLaws.{asked_in, lived_in}

module _ {T : Type 0} where
  asked_in-append : (e f : List (KeeperCall T)) → asked_in (e ++ f) ≡ asked_in e ++ asked_in f
  asked_in-append [] f = refl
  asked_in-append (Asked call ∷ e) f = ap (λ (l : List (Call T)). call ∷ l) (asked_in-append e f)
  asked_in-append (Lived call ∷ e) f = asked_in-append e f

  lived_in-append : (e f : List (KeeperCall T)) → lived_in (e ++ f) ≡ lived_in e ++ lived_in f
  lived_in-append [] f = refl
  lived_in-append (Asked call ∷ e) f = lived_in-append e f
  lived_in-append (Lived call ∷ e) f = ap (λ (l : List WorldCall). call ∷ l) (lived_in-append e f)

  asked_in-map : (calls : List (Call T)) → asked_in (map (λ call. Asked call) calls) ≡ calls
  asked_in-map [] = refl
  asked_in-map (call ∷ calls) = ap (λ (l : List (Call T)). call ∷ l) (asked_in-map calls)

  lived_in-map : (calls : List (Call T)) → lived_in (map (λ call. Asked call) calls) ≡ []
  lived_in-map [] = refl
  lived_in-map (call ∷ calls) = lived_in-map calls

module _ {T E : Type 0} where
  asked_of : (r : Round T E) → asked_in (keeper_calls_of r) ≡ calls_of r
  asked_of Blind = refl
  asked_of (Seen p now) = refl
  asked_of (Renewing p now name calls end) = ap (λ (l : List (Call T)). Load (Some p) ∷ l) (asked_in-map calls)

  lived_of : (r : Round T E) → lived_in (keeper_calls_of r) ≡ events_of r
  lived_of Blind = refl
  lived_of (Seen p now) = refl
  lived_of (Renewing p now name calls end) = ap (λ (l : List WorldCall). Reading now ∷ Drawn name ∷ l) (lived_in-map calls)

  pub asked_all : (wait : Duration) (rounds : List (Round T E)) → asked_in (keeper_calls_in wait rounds) ≡ calls_in rounds
  asked_all wait [] = refl
  asked_all wait (r ∷ []) = asked_of r ∙ sym (append-nil (calls_of r))
  asked_all wait (r ∷ next ∷ rounds) =
      asked_in-append (keeper_calls_of r) (Lived (Slept wait) ∷ keeper_calls_in wait (next ∷ rounds))
      ∙ ap (λ (l : List (Call T)). l ++ asked_in (keeper_calls_in wait (next ∷ rounds))) (asked_of r)
      ∙ ap (λ (l : List (Call T)). calls_of r ++ l) (asked_all wait (next ∷ rounds))

  pub lived_all : (wait : Duration) (rounds : List (Round T E)) → lived_in (keeper_calls_in wait rounds) ≡ events_in wait rounds
  lived_all wait [] = refl
  lived_all wait (r ∷ []) = lived_of r
  lived_all wait (r ∷ next ∷ rounds) =
      lived_in-append (keeper_calls_of r) (Lived (Slept wait) ∷ keeper_calls_in wait (next ∷ rounds))
      ∙ ap (λ (l : List WorldCall). l ++ Slept wait ∷ lived_in (keeper_calls_in wait (next ∷ rounds))) (lived_of r)
      ∙ ap (λ (l : List WorldCall). events_of r ++ Slept wait ∷ l) (lived_all wait (next ∷ rounds))
