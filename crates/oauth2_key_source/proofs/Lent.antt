-- A call that lends keys is a call of the source.
use Rattle.std.proofs.Common.{◌≡◌, ℕ, List, [], ◌∷◌, Option, Some, None, Result, Ok, Err, refl}
use Rattle.std.specs.Prelude.{ℤ}
use Rattle.oauth2_keys.specs.declared.json_web_key.ListedKey.{ListedKey}
use Rattle.oauth2_key_source.specs.declared.key_set_error.KeySetError.{KeySetError}
use Rattle.oauth2_key_source.specs.declared.source_error.KeySourceError.{KeySourceError}
use Rattle.oauth2_key_source.specs.Request.{KeySetQuery}
use Rattle.oauth2_key_source.specs.Source.{Source, SourceAnswersOr}
use Rattle.oauth2_key_source.specs.Runs.{SourceRuns, call_at}

module _ {A RE T C : Type 0} (asks : KeySetQuery → C → Result (List ListedKey) (KeySetError RE T) → C → Type 0) (Gives : List ListedKey → A → Type 0) where
  pub is_a_run : (source kept : Source) (key_id : Option (List ℕ)) (now : ℤ) (before after : C) (lent : Option A) (fault : Option (KeySourceError RE T))
      → SourceAnswersOr asks Gives source key_id now before lent fault after kept
      → SourceRuns asks source before (call_at source key_id now ∷ []) after kept
  is_a_run source kept key_id now before after (Some keys) fault (none, (call, shown)) = (refl, (Ok tt, after, kept, call, (refl, refl)))
  is_a_run source kept key_id now before after None (Some error) call = (refl, (Err error, after, kept, call, (refl, refl)))
  is_a_run source kept key_id now before after None None call = absurd call
