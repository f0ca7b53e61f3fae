-- A text as JSON.
use Rattle.std.specs.Prelude.{ℕ, List}
use Rattle.serde_json.specs.Data.{string}
use Rattle.serde_json.specs.Written.{compact_text}

-- a text as a JSON string, with its quotation marks
unfoldable pub quotation : List ℕ → List ℕ
quotation text = compact_text (string text)
