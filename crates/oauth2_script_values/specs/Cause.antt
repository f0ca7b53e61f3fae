-- The words for the causes of faults.
use Rattle.std.specs.Prelude.{ℕ, List, codes}
use Rattle.oauth2_script_values.specs.declared.script_cause.ScriptCause.{ScriptCause}
use Rattle.oauth2_script_values.specs.declared.script_cause.ScriptCause.TheVariants.{NotJson, NotObject, Missing, WrongType, OutOfRange, BadUrl, UnknownWord, BadText, Excluded}

-- the word of a cause
abbrev pub cause_word : ScriptCause → List ℕ
cause_word NotJson = codes "not_json"
cause_word NotObject = codes "not_object"
cause_word Missing = codes "missing"
cause_word WrongType = codes "wrong_type"
cause_word OutOfRange = codes "out_of_range"
cause_word BadUrl = codes "bad_url"
cause_word UnknownWord = codes "unknown_word"
cause_word BadText = codes "bad_text"
cause_word Excluded = codes "excluded"
