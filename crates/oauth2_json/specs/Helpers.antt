-- What the helpers read and write: single values. A nested fault has an empty member name.
use Rattle.std.specs.Prelude.{ℕ, List, [], Option, Some, None}
use Rattle.serde_json.specs.Data.{Data, null, string}
use Rattle.oauth2_json.specs.Reading.{Reading}
use Rattle.oauth2_json.specs.Members.{optional_member}
use Rattle.oauth2_json.specs.Words.{joined_words}

-- null reads as `None`, and any other value as `kind` reads it
abbrev pub nullable : {A : Type 0} → (Data → Reading A) → Data → Reading (Option A)
nullable kind d = optional_member kind [] (Some d)

-- `None` is written as null, a list as one text with a space between two entries (RFC 6749, 3.3)
abbrev pub words_data : Option (List (List ℕ)) → Data
words_data None = null
words_data (Some ps) = string (joined_words ps)
