-- What a call finds, and what follows where it makes no request.
use Rattle.std.proofs.Common.{rules, ◌≡◌, List, Option, Some, None, Result, Ok, Err, subst, sym, ap, ◌∙◌, refl, ℕ}
use Rattle.std.specs.Prelude.{ℤ, Bool, true, false, not, ◌&&◌, ◌||◌, IsTrue, IsSome, IsSomeAnd, is_some, option_map}
use Rattle.oauth2_keys.specs.declared.json_web_key.ListedKey.{ListedKey}
use Rattle.oauth2_key_source.specs.declared.key_set_error.KeySetError.{KeySetError}
use Rattle.oauth2_key_source.specs.declared.source_error.KeySourceError.{KeySourceError}
use Rattle.oauth2_key_source.specs.Request.{KeySetQuery}
use Rattle.oauth2_key_source.specs.Source.{Source, KeptKeys, found_at, is_fresh, knows, suffices, is_waiting, is_due, is_given, CallsIf, SourceCalls}

no_rest : (fresh known old : Bool) → (not (fresh && known) && true) ≡ false → (fresh || old) ≡ false → ⊥
no_rest true known old due given = cc
no_rest false known old due given = cc

-- a call that makes no request and is not handed the kept set waits
asked_if_waits : (lifetime wait : ℕ) (uses_old : Bool) (key_id : Option (List ℕ)) (now : ℤ) (kept : Option KeptKeys) (asked_at : Option ℤ)
    → (not (suffices lifetime key_id now kept) && not (is_waiting wait now asked_at)) ≡ false
    → (is_fresh lifetime now kept || (uses_old && is_some kept)) ≡ false → IsSome asked_at
asked_if_waits lifetime wait uses_old key_id now kept (Some moment) due given = refl
asked_if_waits lifetime wait uses_old key_id now None None due given = cc
asked_if_waits lifetime wait uses_old key_id now (Some k) None due given =
    absurd (no_rest (is_fresh lifetime now (Some k)) (knows key_id k.keys) (uses_old && true) due given)

pub asked : (source : Source) (key_id : Option (List ℕ)) (now : ℤ) → is_due source key_id now ≡ false → is_given source now ≡ false → IsSome source.asked_at
asked source key_id now due given = asked_if_waits source.lifetime source.wait source.uses_old key_id now source.kept source.asked_at due given

kept_if : (lifetime : ℕ) (uses_old : Bool) (now : ℤ) (kept : Option KeptKeys) → IsTrue (is_fresh lifetime now kept || (uses_old && is_some kept)) → IsSome kept
kept_if lifetime uses_old now (Some k) given = refl
kept_if lifetime true now None given = given
kept_if lifetime false now None given = given

-- what is handed out is kept
pub kept : (source : Source) (now : ℤ) → IsTrue (is_given source now) → IsSome source.kept
kept source now given = kept_if source.lifetime source.uses_old now source.kept given

-- what holds of the keys that were got holds of those that are kept
pub of_kept : (Holds : List ListedKey → Type 0) (k : Option KeptKeys) (keys : List ListedKey) → option_map (λ k. k.keys) k ≡ Some keys → Holds keys → IsSomeAnd k (λ k. Holds k.keys)
of_kept Holds None keys is there = cc
of_kept Holds (Some k) keys is there = subst Holds (search (rules, is)) there

module _ {RE T C : Type 0} (asks : KeySetQuery → C → Result (List ListedKey) (KeySetError RE T) → C → Type 0) where
  -- a call that makes a request, or none
  pub calls : (source found next : Source) (key_id : Option (List ℕ)) (now : ℤ) (before after : C) (result : Result Unit (KeySourceError RE T)) (is : Bool)
      → found ≡ found_at source now → is ≡ is_due found key_id now → CallsIf asks is found now before result after next
      → SourceCalls asks source key_id now before result after next
  calls source found next key_id now before after result is same flag call =
      subst (λ (s : Source). CallsIf asks (is_due s key_id now) s now before result after next) same (subst (λ b. CallsIf asks b found now before result after next) flag call)
