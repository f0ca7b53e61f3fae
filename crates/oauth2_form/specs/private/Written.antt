-- What a `FormBody` and an `EncodedText` hold.
use Rattle.std.specs.Prelude.{◌≡◌, ℕ, List, [], ◌++◌, All}
use Rattle.form_urlencoded.specs.Form.{parse, decode, byte_serialize, extend_pairs}
use Rattle.oauth2_form.specs.Pairs.{IsByte, IsBytePair}

-- the text is the encoding of the pairs that it decodes to
pub record IsWritten (text : List ℕ) : Type 0 where
  pub spelled : text ≡ extend_pairs [] (parse text)
  pub bytes : All IsBytePair (parse text)

-- the text is the encoding of what it decodes to
pub record IsEncodedText (text : List ℕ) : Type 0 where
  pub spelled : text ≡ byte_serialize (decode text)
  pub bytes : All IsByte (decode text)

-- the new text is the encoding of the pairs of `a`, followed by those of `b`
pub record JoinsForms (a b new : List ℕ) : Type 0 where
  pub written : IsWritten new
  pub pairs : parse new ≡ parse a ++ parse b
