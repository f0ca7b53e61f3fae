-- What an input's bytes say of its JSON value.
use Rattle.std.proofs.Common.{◌≡◌, ℕ, List, Bool, true, false, Some, None, Ok, IsUtf8, refl}
use Rattle.std.proofs.lemmas.Str.{IsUtf8-from_is_utf8, is_utf8-from_IsUtf8}
use Rattle.std.specs.Str.{is_utf8}
use Rattle.serde_json.specs.Data.{Data}
use Rattle.serde_json.specs.Read.{read}
use Rattle.oauth2_script_values.specs.Reading.{bad}
use Rattle.oauth2_script_values.specs.Json.{json_in}
use Rattle.oauth2_script_values.specs.declared.script_cause.ScriptCause.TheVariants.{NotJson}

pub json_in-read : (input : List ℕ) (d : Data) → IsUtf8 input → read input ≡ Some d → json_in input ≡ Ok d
unfolding json_in
json_in-read input d text e = let t : is_utf8 input ≡ true = is_utf8-from_IsUtf8 input text in rw (t, e) refl

by_test : (input : List ℕ) (b : Bool) → is_utf8 input ≡ b → (IsUtf8 input → read input ≡ None) → json_in input ≡ bad NotJson
unfolding json_in
by_test input true e h = let n : read input ≡ None = h (IsUtf8-from_is_utf8 input e) in rw (e, n) refl
by_test input false e h = rw e refl

pub json_in-unread : (input : List ℕ) → (IsUtf8 input → read input ≡ None) → json_in input ≡ bad NotJson
json_in-unread input h = by_test input (is_utf8 input) refl h
