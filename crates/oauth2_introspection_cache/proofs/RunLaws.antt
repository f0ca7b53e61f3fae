-- What a cache knows after many events.
use Rattle.std.proofs.Common.{◌≡◌, ℕ, inl, inr, List, [], ◌∷◌, ◌++◌, Option, Some, None, Result, refl, sym, ap, subst, ◌∙◌}
use Rattle.std.specs.Prelude.{ℤ, Bool, true, false, cond, IsTrue}
use Rattle.std.specs.Map.{lookup}
use Rattle.oauth2_types.specs.Digest.{digest_eq}
use Rattle.oauth2_wire.specs.declared.content_type.ReplyRule.{ReplyRule}
use Rattle.oauth2_wire.specs.declared.error.RequestTokenError.{RequestTokenError}
use Rattle.oauth2_wire.specs.Request.{RequestView}
use Rattle.oauth2_introspection_cache.specs.Cache.{Cache, KeptAnswer, Outcome, remembered, active, inactive, failed, is_good_at, good_of, good_answer, forgetting, kept_after}
use Rattle.oauth2_introspection_cache.specs.Runs.{CacheEvent, asked, forgotten, token_of, known_after, last_word, CacheRuns, EachAnswerWasTold, EachForgottenTokenIsAskedAbout, EachOutcomeIsKept}
use Rattle.oauth2_introspection_cache.proofs.Kept.{digest_laws, still_kept, now_kept}
use Rattle.lru_laws.proofs.LastUse.{IsNoneOr, Tracks, tracks-promoted, tracks-removed, tracks-put, tracks-nothing}

module _ {D : Type 0} where
  -- what is known of each token after one event
  abbrev knowing : (List ℕ → Option (KeptAnswer D)) → CacheEvent D → List ℕ → Option (KeptAnswer D)
  knowing known event token = cond (digest_eq token (token_of event)) (known_after event (known token)) (known token)

  tracks-same : (es : List (List ℕ × KeptAnswer D)) (f g : List ℕ → Option (KeptAnswer D)) → ((q : List ℕ) → f q ≡ g q) → Tracks digest_eq es f → Tracks digest_eq es g
  tracks-same es f g same (apart, finds) = (apart, (λ q. subst (IsNoneOr (lookup (digest_eq q) es)) (same q) (finds q)))

  either_same : (b : Bool) (x : Option (KeptAnswer D)) → x ≡ cond b x x
  either_same true x = refl
  either_same false x = refl

  put_after_removed : (b : Bool) (v x : Option (KeptAnswer D)) → cond b v (cond b None x) ≡ cond b v x
  put_after_removed true v x = refl
  put_after_removed false v x = refl

  tracks-event : (cache : Cache D) (token : List ℕ) (now : ℤ) (outcome : Outcome D) (known : List ℕ → Option (KeptAnswer D)) → Tracks digest_eq cache.kept.entries known
      → Tracks digest_eq (kept_after cache token now outcome).kept.entries (knowing known (asked token now outcome))
  tracks-event cache token now (remembered answer) known is =
      tracks-same _ known (knowing known (asked token now (remembered answer))) (λ q. either_same (digest_eq q token) (known q)) (tracks-promoted digest_laws token cache.kept.entries known is)
  tracks-event cache token now (active answer) known is =
      let v : KeptAnswer D = record { answer = answer; asked_at = now } in
      let without = tracks-removed digest_laws token cache.kept.entries known is in
      tracks-same _ (λ q. cond (digest_eq q token) (Some v) (cond (digest_eq q token) None (known q))) (knowing known (asked token now (active answer)))
      (λ q. put_after_removed (digest_eq q token) (Some v) (known q))
      (tracks-put digest_laws (forgetting cache token).kept token v (λ q. cond (digest_eq q token) None (known q)) without)
  tracks-event cache token now inactive known is = tracks-removed digest_laws token cache.kept.entries known is
  tracks-event cache token now failed known is = tracks-removed digest_laws token cache.kept.entries known is

  longest_stays : (cache : Cache D) (token : List ℕ) (now : ℤ) (outcome : Outcome D) → (kept_after cache token now outcome).longest ≡ cache.longest
  longest_stays cache token now (remembered answer) = refl
  longest_stays cache token now (active answer) = refl
  longest_stays cache token now inactive = refl
  longest_stays cache token now failed = refl

  -- an answer that may be used is the one that is known
  good_is_known : (expires : D → Option ℤ) (longest : ℕ) (now : ℤ) (found known : Option (KeptAnswer D)) (answer : D) → IsNoneOr found known → good_of expires longest now found ≡ Some answer
      → (kept : KeptAnswer D) × (known ≡ Some kept) × (kept.answer ≡ answer) × IsTrue (is_good_at expires longest now kept)
  good_is_known expires longest now None known answer is good = cc
  good_is_known expires longest now (Some kept) known answer (inl none) good = cc
  good_is_known expires longest now (Some kept) known answer (inr same) good = by_test (is_good_at expires longest now kept) refl good
    where
      by_test : (b : Bool) → is_good_at expires longest now kept ≡ b → cond b (Some kept.answer) None ≡ Some answer
          → (kept : KeptAnswer D) × (known ≡ Some kept) × (kept.answer ≡ answer) × IsTrue (is_good_at expires longest now kept)
      by_test true test is = (kept, sym same, inner is, test)
        where
          inner : Some kept.answer ≡ Some answer → kept.answer ≡ answer
          inner e = cc
      by_test false test is = cc

  -- what came before a token was forgotten is not known after it
  word_since : (token : List ℕ) (before : Option (KeptAnswer D)) (earlier later : List (CacheEvent D)) → last_word token before (earlier ++ forgotten token ∷ later) ≡ last_word token None later
  word_since token before [] later = ap (λ b. last_word token (cond b None before) later) (digest_laws.refl token)
  word_since token before (event ∷ earlier) later = word_since token (cond (digest_eq token (token_of event)) (known_after event before) before) earlier later

module _ {D T RE C : Type 0} (asks : ReplyRule → (List ℕ → RequestView → Type 0) → List ℕ → C → Result D (RequestTokenError RE T) → C → Type 0)
    (is_active : D → Bool) (expires : D → Option ℤ) where
  tracks-run : (events : List (CacheEvent D)) (cache end : Cache D) (before after : C) (known : List ℕ → Option (KeptAnswer D)) → Tracks digest_eq cache.kept.entries known
      → CacheRuns asks is_active expires cache before events after end
      → Tracks digest_eq end.kept.entries (λ token. last_word token (known token) events) × (end.longest ≡ cache.longest)
  tracks-run [] cache end before after known is (same, stays) =
      (subst (λ (c : Cache D). Tracks digest_eq c.kept.entries known) (sym stays) is, ap (λ (c : Cache D). c.longest) stays)
  tracks-run (asked token now outcome ∷ events) cache end before after known is (result, middle, made, rest) =
      let on = tracks-run events (kept_after cache token now outcome) end middle after (knowing known (asked token now outcome)) (tracks-event cache token now outcome known is) rest in
      (on.0, on.1 ∙ longest_stays cache token now outcome)
  tracks-run (forgotten token ∷ events) cache end before after known is rest =
      tracks-run events (forgetting cache token) end before after (knowing known (forgotten token)) (tracks-removed digest_laws token cache.kept.entries known is) rest

  pub was_told : EachAnswerWasTold asks is_active expires
  was_told cache end before after events token now answer empty run good =
      let begins = subst (λ es. Tracks digest_eq es (λ _. None)) (sym empty) (tracks-nothing {eq = digest_eq} digest_laws (λ _. None)) in
      let ends = tracks-run events cache end before after (λ _. None) begins run in
      subst (λ longest. (kept : KeptAnswer D) × (last_word token None events ≡ Some kept) × (kept.answer ≡ answer) × IsTrue (is_good_at expires longest now kept)) ends.1
      (good_is_known expires end.longest now (lookup (digest_eq token) end.kept.entries) (last_word token None events) answer (ends.0.1 token) good)

  pub is_asked_about : EachForgottenTokenIsAskedAbout asks is_active expires
  is_asked_about cache end before after earlier later token now empty run unknown = by_answer (good_answer expires end token now) refl
    where
      by_answer : (o : Option D) → good_answer expires end token now ≡ o → good_answer expires end token now ≡ None
      by_answer None is = is
      by_answer (Some answer) is =
          let told = was_told cache end before after (earlier ++ forgotten token ∷ later) token now answer empty run is in
          absurd (never told.0 (sym (word_since token None earlier later ∙ unknown) ∙ told.1))
        where
          never : (kept : KeptAnswer D) → None ≡ Some kept → ⊥
          never kept e = cc

  pub is_kept : EachOutcomeIsKept asks is_active expires
  is_kept cache token now before after result (remembered answer) shown made same = still_kept expires cache token now answer made.0 ∙ same
  is_kept cache token now before after result (active answer) shown made same = now_kept expires (forgetting cache token) token now answer ∙ same
  is_kept cache token now before after result inactive shown made same = cc
  is_kept cache token now before after result failed shown made same = cc
