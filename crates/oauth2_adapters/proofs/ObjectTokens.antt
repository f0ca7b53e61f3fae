-- The tokens of an object begin with a brace.
use Rattle.std.proofs.Common.{◌≡◌, List, [], ◌∷◌, false, Option, Some, None, option_and_then, refl, ap, ◌∙◌}
use Rattle.json.specs.Token.{Token}
use Rattle.json.specs.Json.{Json, array, Items, Members, parse_map, if_last}
use Rattle.json.proofs.Grammar.{value_is}
use Rattle.oauth2_adapters.specs.Objects.{members_of}
use Rattle.oauth2_adapters.specs.private.First.{begins_with_brace}
use Rattle.oauth2_adapters.specs.private.Tokens.{object_at}

abbrev object_read : Option (Json × List Token) → Option Members
object_read o = option_and_then members_of (option_and_then (λ p. if_last p.0 p.1) o)

an_array : (o : Option (Items × List Token)) → object_read (parse_map array o) ≡ None
an_array None = refl
an_array (Some (js, [])) = refl
an_array (Some (js, t ∷ ts)) = refl

one_token : (j : Json) (ts : List Token) → members_of j ≡ None → object_read (Some (j, ts)) ≡ None
one_token j [] e = e
one_token j (t ∷ ts) e = refl

pub object_at-no_brace : (ts : List Token) → begins_with_brace ts ≡ false → object_at ts ≡ None
object_at-no_brace [] e = ap object_read (value_is 127 [])
object_at-no_brace (Token.begin_object ∷ ts) e = absurd (cc)
object_at-no_brace (Token.end_object ∷ ts) e = ap object_read (value_is 127 (Token.end_object ∷ ts))
object_at-no_brace (Token.begin_array ∷ ts) e = ap object_read (value_is 127 (Token.begin_array ∷ ts)) ∙ an_array _
object_at-no_brace (Token.end_array ∷ ts) e = ap object_read (value_is 127 (Token.end_array ∷ ts))
object_at-no_brace (Token.key s ∷ ts) e = ap object_read (value_is 127 (Token.key s ∷ ts))
object_at-no_brace (Token.string s ∷ ts) e = ap object_read (value_is 127 (Token.string s ∷ ts)) ∙ one_token _ ts refl
object_at-no_brace (Token.number s ∷ ts) e = ap object_read (value_is 127 (Token.number s ∷ ts)) ∙ one_token _ ts refl
object_at-no_brace (Token.boolean b ∷ ts) e = ap object_read (value_is 127 (Token.boolean b ∷ ts)) ∙ one_token _ ts refl
object_at-no_brace (Token.null ∷ ts) e = ap object_read (value_is 127 (Token.null ∷ ts)) ∙ one_token _ ts refl
object_at-no_brace (Token.bad ∷ ts) e = ap object_read (value_is 127 (Token.bad ∷ ts))
