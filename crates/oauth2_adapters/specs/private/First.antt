-- The first JSON token.
use Rattle.std.specs.Prelude.{List, [], ◌∷◌, Bool, true, false}
use Rattle.json.specs.Token.{Token}

-- the first token opens an object
abbrev pub begins_with_brace : List Token → Bool
begins_with_brace [] = false
begins_with_brace (Token.begin_object ∷ ts) = true
begins_with_brace (Token.end_object ∷ ts) = false
begins_with_brace (Token.begin_array ∷ ts) = false
begins_with_brace (Token.end_array ∷ ts) = false
begins_with_brace (Token.key s ∷ ts) = false
begins_with_brace (Token.string s ∷ ts) = false
begins_with_brace (Token.number s ∷ ts) = false
begins_with_brace (Token.boolean b ∷ ts) = false
begins_with_brace (Token.null ∷ ts) = false
begins_with_brace (Token.bad ∷ ts) = false

-- the first token is a string as a value
abbrev pub begins_with_text : List Token → Bool
begins_with_text [] = false
begins_with_text (Token.begin_object ∷ ts) = false
begins_with_text (Token.end_object ∷ ts) = false
begins_with_text (Token.begin_array ∷ ts) = false
begins_with_text (Token.end_array ∷ ts) = false
begins_with_text (Token.key s ∷ ts) = false
begins_with_text (Token.string s ∷ ts) = true
begins_with_text (Token.number s ∷ ts) = false
begins_with_text (Token.boolean b ∷ ts) = false
begins_with_text (Token.null ∷ ts) = false
begins_with_text (Token.bad ∷ ts) = false
