-- What a look-up finds after one step of a map that is ordered by use.
use Rattle.std.proofs.Common.{◌≡◌, ℕ, zero, suc, ◌-◌, Bool, true, false, cond, ◌⊎◌, inl, inr, List, [], ◌∷◌, take, Option, Some, None, refl, sym, ap, subst, ◌∙◌}
use Rattle.std.specs.Prelude.{option_map}
use Rattle.std.specs.Option.{option_map_or}
use Rattle.std.specs.Cmp.{IsEquivalence}
use Rattle.std.specs.List.{AllByRecursion, IsDistinct}
use Rattle.std.specs.Map.{keys_of, lookup, lookup_entry, remove_entry, set_value}
use Rattle.std.specs.Prelude.{IsSome}
use Rattle.std.proofs.lemmas.Map.{lookup-remove_entry, lookup-set_value, keys-set_value}
use Rattle.lru.specs.LruCache.{LruCache, promoted, put_entries}
use Rattle.lru.proofs.CallerLemmas.{lookup-put_entries, Contains-lookup_entry}
use Rattle.lru.proofs.Pairs.{lookup-lookup_entry}

by_answer : {P : Type 0} (b : Bool) → (b ≡ true → P) → (b ≡ false → P) → P
by_answer true p q = p refl
by_answer false p q = q refl

cond-true : {A : Type 0} (b : Bool) (x y : A) → b ≡ true → cond b x y ≡ x
cond-true b x y e = ap (λ c. cond c x y) e

cond-false : {A : Type 0} (b : Bool) (x y : A) → b ≡ false → cond b x y ≡ y
cond-false b x y e = ap (λ c. cond c x y) e

true_false : {P : Type 0} (b : Bool) → b ≡ true → b ≡ false → P
true_false true t f = cc
true_false false t f = cc

-- a look-up after a step finds nothing, or what it should
abbrev pub IsNoneOr : {X : Type 0} → Option X → Option X → Type 0
IsNoneOr found known = (found ≡ None) ⊎ (found ≡ known)

module _ {K : Type 0} {eq : K → K → Bool} (laws : IsEquivalence eq) where
  -- a key that finds an equal one is equal to those that do
  other_class : (q k x : K) → eq k x ≡ true → eq q x ≡ false → eq k q ≡ false
  other_class q k x there differs = by_answer (eq k q) (λ same. true_false (eq q x) (sym (laws.congr k q x same) ∙ there) differs) (λ n. n)

module _ {K X : Type 0} {eq : K → K → Bool} (laws : IsEquivalence eq) where
  -- equal keys find the same
  pub same_class : (q k : K) → eq q k ≡ true → (es : List (K × X)) → lookup (eq q) es ≡ lookup (eq k) es
  same_class q k e [] = refl
  same_class q k e (f ∷ es) = λ i. cond (laws.congr q k f.0 e i) (Some f.1) (same_class q k e es i)

  value_of_entry : (k : K) (es : List (K × X)) (f : K × X) → lookup_entry (eq k) es ≡ Some f → lookup (eq k) es ≡ Some f.1
  value_of_entry k es f h = sym (lookup-lookup_entry (eq k) es) ∙ ap (option_map (λ e. e.1)) h

  module _ (k : K) (es : List (K × X)) (apart : IsDistinct eq (keys_of es)) where
    removed : (q : K) → lookup (eq q) (remove_entry (eq k) es) ≡ cond (eq k q) None (lookup (eq q) es)
    removed q = lookup-remove_entry laws (eq k) (λ x y e. laws.congr k x y e) q es apart

    in_front : (q : K) (f : K × X) (v : X) → lookup_entry (eq k) es ≡ Some f → eq q f.0 ≡ false
        → lookup (eq q) ((f.0, v) ∷ remove_entry (eq k) es) ≡ lookup (eq q) es
    in_front q f v h differs =
        let there = (Contains-lookup_entry (eq k) es f h).1 in
        cond-false (eq q f.0) (Some v) (lookup (eq q) (remove_entry (eq k) es)) differs ∙ removed q ∙ cond-false (eq k q) None (lookup (eq q) es) (other_class laws q k f.0 there differs)

    moved : (q : K) (o : Option (K × X)) → lookup_entry (eq k) es ≡ o → lookup (eq q) (option_map_or (λ f. f ∷ remove_entry (eq k) es) o es) ≡ lookup (eq q) es
    moved q None h = refl
    moved q (Some f) h = by_answer (eq q f.0)
        (λ yes. let there = (Contains-lookup_entry (eq k) es f h).1 in
        let same : eq q k ≡ true = laws.congr q f.0 k yes ∙ laws.symm f.0 k ∙ there in
        cond-true (eq q f.0) (Some f.1) (lookup (eq q) (remove_entry (eq k) es)) yes ∙ sym (value_of_entry k es f h) ∙ sym (same_class q k same es))
        (λ differs. in_front q f f.1 h differs)

    -- whichever key is used, each finds what it found
    pub lookup-promoted : (q : K) → lookup (eq q) (promoted (eq k) es) ≡ lookup (eq q) es
    lookup-promoted q = moved q (lookup_entry (eq k) es) refl

    -- a key that is taken out finds nothing, and others what they found
    pub lookup-removed : (q : K) → lookup (eq q) (remove_entry (eq k) es) ≡ cond (eq q k) None (lookup (eq q) es)
    lookup-removed q = removed q ∙ ap (λ b. cond b None (lookup (eq q) es)) (laws.symm k q)

  -- of fewer entries a key finds nothing, or what it found
  taken : (q : K) (n : ℕ) (es : List (K × X)) → IsNoneOr (lookup (eq q) (take n es)) (lookup (eq q) es)
  taken q zero es = inl refl
  taken q (suc n) [] = inl refl
  taken q (suc n) (f ∷ es) = by_answer (eq q f.0)
      (λ yes. inr (cond-true (eq q f.0) (Some f.1) (lookup (eq q) (take n es)) yes ∙ sym (cond-true (eq q f.0) (Some f.1) (lookup (eq q) es) yes)))
      (λ differs. subst (λ l. IsNoneOr l (lookup (eq q) (f ∷ es))) (sym (cond-false (eq q f.0) (Some f.1) (lookup (eq q) (take n es)) differs))
      (subst (λ r. IsNoneOr (lookup (eq q) (take n es)) r) (sym (cond-false (eq q f.0) (Some f.1) (lookup (eq q) es) differs)) (taken q n es)))

  module _ (c : LruCache K X) (apart : IsDistinct eq (keys_of c.entries)) (k : K) (v : X) where
    put_other : (q : K) → eq q k ≡ false → (o : Option (K × X)) → lookup_entry (eq k) c.entries ≡ o
        → IsNoneOr (lookup (eq q) (option_map_or (λ f. (f.0, v) ∷ remove_entry (eq k) c.entries) o ((k, v) ∷ take (c.cap - 1) c.entries))) (lookup (eq q) c.entries)
    put_other q differs None h = subst (λ l. IsNoneOr l (lookup (eq q) c.entries)) (sym (cond-false (eq q k) (Some v) (lookup (eq q) (take (c.cap - 1) c.entries)) differs)) (taken q (c.cap - 1) c.entries)
    put_other q differs (Some f) h =
        let there = (Contains-lookup_entry (eq k) c.entries f h).1 in
        let off : eq q f.0 ≡ false = laws.symm q f.0 ∙ sym (laws.congr k f.0 q there) ∙ laws.symm k q ∙ differs in
        inr (in_front k c.entries apart q f v h off)

    -- the key that is put finds its value, and others nothing or what they found
    pub lookup-put : (q : K) → IsNoneOr (lookup (eq q) (put_entries eq c k v)) (cond (eq q k) (Some v) (lookup (eq q) c.entries))
    lookup-put q = by_answer (eq q k)
        (λ yes. inr (same_class q k yes (put_entries eq c k v) ∙ lookup-put_entries eq c k v laws ∙ sym (cond-true (eq q k) (Some v) (lookup (eq q) c.entries) yes)))
        (λ differs. subst (IsNoneOr (lookup (eq q) (put_entries eq c k v))) (sym (cond-false (eq q k) (Some v) (lookup (eq q) c.entries) differs)) (put_other q differs (lookup_entry (eq k) c.entries) refl))

-- ---- keys stay apart

module _ {K X : Type 0} {eq : K → K → Bool} (laws : IsEquivalence eq) where
  others_removed : (P : K → Type 0) (test : K → Bool) (es : List (K × X)) → AllByRecursion P (keys_of es) → AllByRecursion P (keys_of (remove_entry test es))
  others_removed P test [] all = all
  others_removed P test (f ∷ es) all = by_answer (test f.0)
      (λ yes. subst (λ l. AllByRecursion P (keys_of l)) (sym (cond-true (test f.0) es (f ∷ remove_entry test es) yes)) all.1)
      (λ differs. subst (λ l. AllByRecursion P (keys_of l)) (sym (cond-false (test f.0) es (f ∷ remove_entry test es) differs)) (all.0, others_removed P test es all.1))

  pub distinct-removed : (test : K → Bool) (es : List (K × X)) → IsDistinct eq (keys_of es) → IsDistinct eq (keys_of (remove_entry test es))
  unfolding IsDistinct
  distinct-removed test [] apart = apart
  distinct-removed test (f ∷ es) apart = by_answer (test f.0)
      (λ yes. subst (λ l. IsDistinct eq (keys_of l)) (sym (cond-true (test f.0) es (f ∷ remove_entry test es) yes)) apart.1)
      (λ differs. subst (λ l. IsDistinct eq (keys_of l)) (sym (cond-false (test f.0) es (f ∷ remove_entry test es) differs))
      (others_removed (λ y. eq f.0 y ≡ false) test es apart.0, distinct-removed test es apart.1))

  others_taken : (P : K → Type 0) (n : ℕ) (es : List (K × X)) → AllByRecursion P (keys_of es) → AllByRecursion P (keys_of (take n es))
  others_taken P zero es all = tt
  others_taken P (suc n) [] all = tt
  others_taken P (suc n) (f ∷ es) all = (all.0, others_taken P n es all.1)

  distinct-taken : (n : ℕ) (es : List (K × X)) → IsDistinct eq (keys_of es) → IsDistinct eq (keys_of (take n es))
  unfolding IsDistinct
  distinct-taken zero es apart = tt
  distinct-taken (suc n) [] apart = tt
  distinct-taken (suc n) (f ∷ es) apart = (others_taken (λ y. eq f.0 y ≡ false) n es apart.0, distinct-taken n es apart.1)

  -- no key is equal to one that finds nothing
  none_equal : (k : K) (es : List (K × X)) → lookup (eq k) es ≡ None → AllByRecursion (λ y. eq k y ≡ false) (keys_of es)
  none_equal k [] h = tt
  none_equal k (f ∷ es) h = by_answer (eq k f.0)
      (λ yes. absurd (none_some f.1 (sym (cond-true (eq k f.0) (Some f.1) (lookup (eq k) es) yes) ∙ h)))
      (λ differs. (differs, none_equal k es (sym (cond-false (eq k f.0) (Some f.1) (lookup (eq k) es) differs) ∙ h)))
    where
      none_some : (x : X) → Some x ≡ None → ⊥
      none_some x e = cc

  module _ (k : K) (es : List (K × X)) (apart : IsDistinct eq (keys_of es)) where
    -- an entry that was there, in front of the others
    in_front_apart : (f : K × X) (v : X) → lookup_entry (eq k) es ≡ Some f → IsDistinct eq (keys_of ((f.0, v) ∷ remove_entry (eq k) es))
    unfolding IsDistinct
    in_front_apart f v h =
        let same : eq f.0 k ≡ true = laws.symm f.0 k ∙ (Contains-lookup_entry (eq k) es f h).1 in
        let gone = lookup-removed laws k es apart f.0 ∙ cond-true (eq f.0 k) None (lookup (eq f.0) es) same in
        (none_equal f.0 (remove_entry (eq k) es) gone, distinct-removed (eq k) es apart)

    promoted_apart : (o : Option (K × X)) → lookup_entry (eq k) es ≡ o → IsDistinct eq (keys_of (option_map_or (λ f. f ∷ remove_entry (eq k) es) o es))
    promoted_apart None h = apart
    promoted_apart (Some f) h = in_front_apart f f.1 h

    pub distinct-promoted : IsDistinct eq (keys_of (promoted (eq k) es))
    distinct-promoted = promoted_apart (lookup_entry (eq k) es) refl

  no_entry : (k : K) (es : List (K × X)) → lookup_entry (eq k) es ≡ None → lookup (eq k) es ≡ None
  no_entry k es h = sym (lookup-lookup_entry (eq k) es) ∙ ap (option_map (λ e. e.1)) h

  module _ (c : LruCache K X) (apart : IsDistinct eq (keys_of c.entries)) (k : K) (v : X) where
    put_apart : (o : Option (K × X)) → lookup_entry (eq k) c.entries ≡ o
        → IsDistinct eq (keys_of (option_map_or (λ f. (f.0, v) ∷ remove_entry (eq k) c.entries) o ((k, v) ∷ take (c.cap - 1) c.entries)))
    unfolding IsDistinct
    put_apart None h = (others_taken (λ y. eq k y ≡ false) (c.cap - 1) c.entries (none_equal k c.entries (no_entry k c.entries h)), distinct-taken (c.cap - 1) c.entries apart)
    put_apart (Some f) h = in_front_apart k c.entries apart f v h

    pub distinct-put : IsDistinct eq (keys_of (put_entries eq c k v))
    distinct-put = put_apart (lookup_entry (eq k) c.entries) refl

-- ---- what is known

-- keys are apart, and each finds nothing or what is known of it
abbrev pub Tracks : {K X : Type 0} → (K → K → Bool) → List (K × X) → (K → Option X) → Type 0
Tracks {K} eq es known = IsDistinct eq (keys_of es) × ((q : K) → IsNoneOr (lookup (eq q) es) (known q))

module _ {K X : Type 0} {eq : K → K → Bool} (laws : IsEquivalence eq) where
  pub tracks-promoted : (k : K) (es : List (K × X)) (known : K → Option X) → Tracks eq es known → Tracks eq (promoted (eq k) es) known
  tracks-promoted k es known (apart, finds) =
      (distinct-promoted laws k es apart, (λ q. subst (λ found. IsNoneOr found (known q)) (sym (lookup-promoted laws k es apart q)) (finds q)))

  or_none : (b : Bool) (found known : Option X) → IsNoneOr found known → IsNoneOr (cond b None found) (cond b None known)
  or_none true found known is = inl refl
  or_none false found known is = is

  pub tracks-removed : (k : K) (es : List (K × X)) (known : K → Option X) → Tracks eq es known → Tracks eq (remove_entry (eq k) es) (λ q. cond (eq q k) None (known q))
  tracks-removed k es known (apart, finds) = (
    distinct-removed laws (eq k) es apart,
    (λ q. subst (λ found. IsNoneOr found (cond (eq q k) None (known q))) (sym (lookup-removed laws k es apart q)) (or_none (eq q k) (lookup (eq q) es) (known q) (finds q))),
  )

  or_put : (b : Bool) (v : X) (after found known : Option X) → IsNoneOr after (cond b (Some v) found) → IsNoneOr found known → IsNoneOr after (cond b (Some v) known)
  or_put true v after found known put is = put
  or_put false v after found known (inl none) is = inl none
  or_put false v after found known (inr same) (inl none) = inl (same ∙ none)
  or_put false v after found known (inr same) (inr there) = inr (same ∙ there)

  pub tracks-put : (c : LruCache K X) (k : K) (v : X) (known : K → Option X) → Tracks eq c.entries known → Tracks eq (put_entries eq c k v) (λ q. cond (eq q k) (Some v) (known q))
  tracks-put c k v known (apart, finds) = (
    distinct-put laws c apart k v,
    (λ q. or_put (eq q k) v (lookup (eq q) (put_entries eq c k v)) (lookup (eq q) c.entries) (known q) (lookup-put laws c apart k v q) (finds q)),
  )

  pub tracks-nothing : (known : K → Option X) → Tracks eq [] known
  unfolding IsDistinct
  tracks-nothing known = (tt, (λ q. inl refl))

  pub tracks-set : (k : K) (es : List (K × X)) (v : X) (known : K → Option X) → IsSome (lookup (eq k) es) → Tracks eq es known
      → Tracks eq (set_value (eq k) es v) (λ q. cond (eq q k) (Some v) (known q))
  tracks-set k es v known there (apart, finds) = (
    subst (IsDistinct eq) (sym (keys-set_value (eq k) es v)) apart,
    (λ q. or_put (eq q k) v (lookup (eq q) (set_value (eq k) es v)) (lookup (eq q) es) (known q)
        (inr (lookup-set_value laws (eq k) (λ x y e. laws.congr k x y e) q v es there ∙ ap (λ b. cond b (Some v) (lookup (eq q) es)) (laws.symm k q))) (finds q)),
  )
