-- Claims whose reading failed, which are put back among the other claims.
use Rattle.std.specs.Prelude.{ℕ, List, Bool, true, ◌&&◌, Option, is_some}
use Rattle.serde_json.specs.Data.{Data, null, boolean, number, string, array, object, Items, no_items, item}
use Rattle.serde_json.specs.Find.{as_str}
use Rattle.oauth2_json.specs.Members.{put_some}

-- whether each item is a string
abbrev pub are_texts : Items → Bool
are_texts no_items = true
are_texts (item d ds) = is_some (as_str d) && are_texts ds

-- the object with this member put back, if there is one; a value that is no object is not changed
abbrev pub put_back : List ℕ → Option Data → Data → Data
put_back name left null = null
put_back name left (boolean b) = boolean b
put_back name left (number n) = number n
put_back name left (string s) = string s
put_back name left (array ds) = array ds
put_back name left (object ms) = object (put_some name left ms)
