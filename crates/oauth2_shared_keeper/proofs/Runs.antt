-- Calls one after the other.
use Rattle.std.proofs.Common.{◌≡◌, ℕ, ◌+◌, Bool, List, [], ◌∷◌, ◌++◌, Option, Result, refl, ap, sym, ◌∙◌, subst, arith, add_assoc, zero-add}
use Rattle.oauth2_shared_token.specs.declared.renewal.Content.{Content}
use Rattle.oauth2_shared_token.specs.declared.renewal.StoredValue.{StoredValue}
use Rattle.oauth2_shared_token.specs.declared.renewal.Turn.{Turn}
use Rattle.oauth2_shared_token.specs.Renewal.{next_turn}
use Rattle.oauth2_shared_keeper.specs.declared.replaced.Replaced.{Replaced}
use Rattle.oauth2_shared_keeper.specs.Call.{Call, Load, Replace, Refresh, told_by, StoreLeads, ClientLeads}
use Rattle.oauth2_shared_keeper.specs.Call.{success_of, is_done, loads_in, replacements_in, refreshes_in}
use Rattle.oauth2_shared_keeper.specs.Renewal.{AsksInTurn}
use Rattle.oauth2_shared_keeper.specs.private.Part.{Passes}

pub loads_in-append : {T : Type 0} (xs ys : List (Call T)) → loads_in (xs ++ ys) ≡ loads_in xs + loads_in ys
loads_in-append [] ys = sym (zero-add (loads_in ys))
loads_in-append (Load shown ∷ xs) ys = ap (λ n. 1 + n) (loads_in-append xs ys) ∙ sym (add_assoc 1 (loads_in xs) (loads_in ys))
loads_in-append (Replace version content done ∷ xs) ys = loads_in-append xs ys
loads_in-append (Refresh token given ∷ xs) ys = loads_in-append xs ys

pub replacements_in-append : {T : Type 0} (xs ys : List (Call T)) → replacements_in (xs ++ ys) ≡ replacements_in xs + replacements_in ys
replacements_in-append [] ys = sym (zero-add (replacements_in ys))
replacements_in-append (Load shown ∷ xs) ys = replacements_in-append xs ys
replacements_in-append (Replace version content done ∷ xs) ys =
    ap (λ n. 1 + n) (replacements_in-append xs ys) ∙ sym (add_assoc 1 (replacements_in xs) (replacements_in ys))
replacements_in-append (Refresh token given ∷ xs) ys = replacements_in-append xs ys

pub refreshes_in-append : {T : Type 0} (xs ys : List (Call T)) → refreshes_in (xs ++ ys) ≡ refreshes_in xs + refreshes_in ys
refreshes_in-append [] ys = sym (zero-add (refreshes_in ys))
refreshes_in-append (Load shown ∷ xs) ys = refreshes_in-append xs ys
refreshes_in-append (Replace version content done ∷ xs) ys = refreshes_in-append xs ys
refreshes_in-append (Refresh token given ∷ xs) ys =
    ap (λ n. 1 + n) (refreshes_in-append xs ys) ∙ sym (add_assoc 1 (refreshes_in xs) (refreshes_in ys))

pub asks-append : {T : Type 0} (name : ℕ) (from mid to : Turn T) (xs ys : List (Call T)) → AsksInTurn name from xs mid → AsksInTurn name mid ys to → AsksInTurn name from (xs ++ ys) to
asks-append {T} name from mid to [] ys first then = subst (λ (t : Turn T). AsksInTurn name t ys to) (sym first) then
asks-append name from mid to (x ∷ xs) ys first then = (first.0, asks-append name (next_turn name from.phase (told_by x)) mid to xs ys first.1 then)

pub passes-append : {T : Type 0} (name : ℕ) (from mid to : Turn T) (xs ys : List (Call T)) (l m n r : ℕ)
    → Passes name from xs mid l n → Passes name mid ys to m r → Passes name from (xs ++ ys) to (l + m) (n + r)
passes-append name from mid to xs ys l m n r first then =
    record {
      asks = asks-append name from mid to xs ys first.asks then.asks;
      loads_are = rw (loads_in-append xs ys, first.loads_are, then.loads_are) refl;
      replacements_are = rw (replacements_in-append xs ys, first.replacements_are, then.replacements_are) refl;
      unsent = rw (refreshes_in-append xs ys, first.unsent, then.unsent) refl;
    }

module _ {T S SE : Type 0} (loads : S → List ℕ → Result (StoredValue T) SE → S → Type 0) (replaces : S → List ℕ → ℕ → Content T → Result Replaced SE → S → Type 0) (name : List ℕ) where
  pub store-append : (s mid last : S) (xs ys : List (Call T)) → StoreLeads loads replaces name s xs mid → StoreLeads loads replaces name mid ys last → StoreLeads loads replaces name s (xs ++ ys) last
  store-append s mid last [] ys first then = subst (λ (u : S). StoreLeads loads replaces name u ys last) (sym first) then
  store-append s mid last (Load shown ∷ xs) ys (answer, next, h, e, first) then = (answer, next, h, e, store-append next mid last xs ys first then)
  store-append s mid last (Replace version content done ∷ xs) ys (answer, next, h, e, first) then = (answer, next, h, e, store-append next mid last xs ys first then)
  store-append s mid last (Refresh token given ∷ xs) ys first then = store-append s mid last xs ys first then

  pub one_load : (s last : S) (shown : Option (StoredValue T)) → ((answer : Result (StoredValue T) SE) × loads s name answer last × (shown ≡ success_of answer))
      → StoreLeads loads replaces name s (Load shown ∷ []) last
  one_load s last shown (answer, h, e) = (answer, last, h, e, refl)

  pub one_replace : (s last : S) (version : ℕ) (content : Content T) (done : Bool) → ((answer : Result Replaced SE) × replaces s name version content answer last × (done ≡ is_done answer))
      → StoreLeads loads replaces name s (Replace version content done ∷ []) last
  one_replace s last version content done (answer, h, e) = (answer, last, h, e, refl)

module _ {T C CE : Type 0} (refreshes : C → T → Result T CE → C → Type 0) where
  pub client-append : (c mid last : C) (xs ys : List (Call T)) → ClientLeads refreshes c xs mid → ClientLeads refreshes mid ys last → ClientLeads refreshes c (xs ++ ys) last
  client-append c mid last [] ys first then = subst (λ (u : C). ClientLeads refreshes u ys last) (sym first) then
  client-append c mid last (Load shown ∷ xs) ys first then = client-append c mid last xs ys first then
  client-append c mid last (Replace version content done ∷ xs) ys first then = client-append c mid last xs ys first then
  client-append c mid last (Refresh token given ∷ xs) ys (answer, next, h, e, first) then = (answer, next, h, e, client-append next mid last xs ys first then)

  -- a client to which no call is made stays as it is
  pub client-unsent : (c : C) (xs : List (Call T)) → refreshes_in xs ≡ 0 → ClientLeads refreshes c xs c
  client-unsent c [] none = refl
  client-unsent c (Load shown ∷ xs) none = client-unsent c xs none
  client-unsent c (Replace version content done ∷ xs) none = client-unsent c xs none
  client-unsent c (Refresh token given ∷ xs) none = absurd (omega arith)
