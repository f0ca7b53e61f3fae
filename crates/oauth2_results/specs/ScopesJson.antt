-- The scopes of an answer as JSON.
use Rattle.std.specs.Prelude.{ℕ, ◌==◌, List, map, Option, Some, None, option_and_then, codes}
use Rattle.std.specs.List.{slice_split}
use Rattle.serde_json.specs.Data.{Data}
use Rattle.serde_json.specs.Find.{get, as_str}
use Rattle.serde_json.specs.Read.{read}
use Rattle.oauth2_world.specs.Quotation.{quotation}
use Rattle.oauth2_results.specs.Json.{list_text}

-- what stands between the spaces of a text, as a list (RFC 6749, 3.3)
abbrev pub words_json : List ℕ → List ℕ
words_json text = list_text (map quotation (slice_split (λ c. c == 32) text))

-- the words of a text, or `null`
abbrev pub optional_words_json : Option (List ℕ) → List ℕ
optional_words_json None = codes "null"
optional_words_json (Some text) = words_json text

-- the member `scope` of a value, if it is a text
abbrev pub scope_of : Data → Option (List ℕ)
scope_of value = option_and_then as_str (get (codes "scope") value)

-- the scopes of an answer, which is a JSON text, or `null` if it has none
abbrev pub scopes_json : List ℕ → List ℕ
scopes_json answer = optional_words_json (option_and_then scope_of (read answer))
