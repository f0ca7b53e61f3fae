-- A form to which pairs are appended (URL Standard, section 5.2).
use Rattle.std.specs.Prelude.{◌≡◌, ℕ, List, All}
use Rattle.form_urlencoded.specs.Form.{extend_pairs}
use Rattle.oauth2_form.specs.Pairs.{Pair, IsBytePair}

-- the new text is the old one with the encodings of these pairs appended
pub record ExtendsForm (old new : List ℕ) (pairs : List Pair) : Type 0 where
  pub text : new ≡ extend_pairs old pairs
  pub bytes : All IsBytePair pairs
