-- What a source is once the keys that a call lent are given back.
use Rattle.std.specs.Prelude.{◌≡◌, ℕ, ℤ, List, Option, Result}
use Rattle.std.specs.Borrow.{Bor, Fml, MutBor}
use Rattle.std.specs.Io.BufRead.{Rests}
use Rattle.oauth2_keys.specs.declared.json_web_key.ListedKey.{ListedKey}
use Rattle.oauth2_key_source.specs.contracts.key_source.KeySource.{the_row}
use Rattle.oauth2_key_source.specs.declared.key_set_error.KeySetError.{KeySetError}
use Rattle.oauth2_key_source.specs.declared.source_error.KeySourceError.{KeySourceError}
use Rattle.oauth2_key_source.specs.Request.{KeySetQuery}
use Rattle.oauth2_key_source.specs.Source.{Source, SourceAnswersOr}

module _ {RE T C : Type 0} (asks : KeySetQuery → C → Result (List ListedKey) (KeySetError RE T) → C → Type 0) where
  -- the keys that are lent are those that the source keeps after the call, and once they are given back it
  -- is as the call left it
  abbrev pub LendsKeys : MutBor Source → Option (List ℕ) → ℤ → C → Option (Bor (List ListedKey))
      → Option (KeySourceError RE T) → C → Fml
  LendsKeys source key_id now before lent fault after =
      Rests the_row source (SourceAnswersOr asks (λ keys lent. lent.now ≡ keys) source.now key_id now before lent fault after)
