-- The answer that is kept after a call.
use Rattle.std.proofs.Common.{rules, ◌≡◌, ℕ, List, ◌∷◌, Option, Some, None, refl, sym, ap, subst, ◌∙◌}
use Rattle.std.specs.Prelude.{ℤ, Bool, true, false, cond, IsSome, is_some, option_map}
use Rattle.std.specs.Option.{option_map_or}
use Rattle.std.specs.Cmp.{IsEquivalence}
use Rattle.std.specs.Cmp.Rules.{comparing}
use Rattle.std.specs.Map.{lookup, lookup_entry, remove_entry}
use Rattle.lru.specs.LruCache.{LruCache, promoted, put_entries}
use Rattle.lru.proofs.CallerLemmas.{lookup-put_entries, Contains-lookup_entry}
use Rattle.lru.proofs.Pairs.{lookup-lookup_entry}
use Rattle.oauth2_types.specs.Digest.{digest_eq}
use Rattle.oauth2_introspection_cache.specs.Cache.{Cache, KeptAnswer, is_good_at, good_of, good_answer, kept_answer, promoting, keeping}

-- texts with equal digests are told apart from no text, or from the same ones
pub digest_laws : IsEquivalence digest_eq
digest_laws = search (comparing, rules)

module _ {D : Type 0} where
  -- an answer that is kept is found
  pub put_found : (c : LruCache (List ℕ) (KeptAnswer D)) (token : List ℕ) (kept : KeptAnswer D)
      → IsSome (option_map (λ k. k.answer) (lookup (digest_eq token) (put_entries digest_eq c token kept)))
  put_found c token kept = subst (λ found. IsSome (option_map (λ k. k.answer) found)) (sym (lookup-put_entries digest_eq c token kept digest_laws)) refl

  -- one that may be used is kept
  good_is_kept : (expires : D → Option ℤ) (longest : ℕ) (now : ℤ) (found : Option (KeptAnswer D)) (answer : D) → good_of expires longest now found ≡ Some answer
      → option_map (λ k. k.answer) found ≡ Some answer
  good_is_kept expires longest now None answer good = cc
  good_is_kept expires longest now (Some kept) answer good = by_test (is_good_at expires longest now kept) good
    where
      by_test : (b : Bool) → cond b (Some kept.answer) None ≡ Some answer → Some kept.answer ≡ Some answer
      by_test true is = is
      by_test false is = cc

module _ {D : Type 0} (expires : D → Option ℤ) (longest : ℕ) (now : ℤ) where
  some_if : (b : Bool) (x : D) → b ≡ is_some (cond b (Some x) None)
  some_if true x = refl
  some_if false x = refl

  -- an answer that was found is given exactly if it may be used
  pub good_found : (found : Option (KeptAnswer D)) (kept : KeptAnswer D) (r : Bool) → found ≡ Some kept → r ≡ is_good_at expires longest now kept
      → r ≡ is_some (good_of expires longest now found)
  good_found found kept r there is = is ∙ some_if (is_good_at expires longest now kept) kept.answer ∙ sym (ap (λ f. is_some (good_of expires longest now f)) there)

moved_found : {X : Type 0} (test : List ℕ → Bool) (es : List (List ℕ × X)) (o : Option (List ℕ × X)) → lookup_entry test es ≡ o
    → lookup test (option_map_or (λ e. e ∷ remove_entry test es) o es) ≡ lookup test es
moved_found test es None h = refl
moved_found test es (Some f) h =
    ap (λ b. cond b (Some f.1) (lookup test (remove_entry test es))) (Contains-lookup_entry test es f h).1
    ∙ sym (ap (option_map (λ e. e.1)) h) ∙ lookup-lookup_entry test es

-- an entry that is used is found as before
pub promoted_found : {X : Type 0} (test : List ℕ → Bool) (es : List (List ℕ × X)) → lookup test (promoted test es) ≡ lookup test es
promoted_found test es = moved_found test es (lookup_entry test es) refl

module _ {D : Type 0} (expires : D → Option ℤ) (cache : Cache D) (token : List ℕ) (now : ℤ) where
  -- after a call that sends nothing the answer is still kept
  pub still_kept : (answer : D) → good_answer expires cache token now ≡ Some answer → kept_answer (promoting cache token) token ≡ Some answer
  still_kept answer good =
      ap (option_map (λ k. k.answer)) (promoted_found (digest_eq token) cache.kept.entries)
      ∙ good_is_kept expires cache.longest now (lookup (digest_eq token) cache.kept.entries) answer good

  pub now_kept : (answer : D) → kept_answer (keeping cache token (record { answer = answer; asked_at = now })) token ≡ Some answer
  now_kept answer = ap (option_map (λ k. k.answer)) (lookup-put_entries digest_eq cache.kept token (record { answer = answer; asked_at = now }) digest_laws)
