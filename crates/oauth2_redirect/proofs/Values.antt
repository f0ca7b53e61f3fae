-- The parameters of a name that a loop has come by.
use Rattle.std.proofs.Common.{◌≡◌, refl, ℕ, List, [], ◌∷◌, length, Bool, true, false, cond, ◌&&◌, ◌==◌, map, filter, Option, Some, None, Result, Ok, Err, IfOk, ◌∙◌, rules}
use Rattle.std.specs.Borrow.{Bor}
use Rattle.form_urlencoded.specs.Form.{decode, plus_to_space}
use Rattle.form_urlencoded.specs.Parse.{raw_pairs_left}
use Rattle.form_urlencoded.specs.declared.reading.RawPairs.{RawPairs}
use Rattle.percent_encoding.specs.Percent.{percent_decode, is_escape}
use Rattle.oauth2_form.specs.Pairs.{Pair}
use Rattle.oauth2_wire.specs.ByName.{bears}
use Rattle.oauth2_redirect.specs.Query.{has_value, sent_pairs}

-- the parameters that are left
abbrev pub pairs_left : RawPairs → List Pair
pairs_left it = map (λ (n, v). (decode n, decode v)) (raw_pairs_left it)

-- the parameters of the name among those that are left
abbrev pub left : List ℕ → RawPairs → List Pair
left name it = filter (bears name) (sent_pairs (pairs_left it))

-- the parameter that was found
abbrev pub kept : List ℕ → Option (Bor (List ℕ)) → List Pair
kept name None = []
kept name (Some value) = (name, decode value.now) ∷ []

escaped : (name : List ℕ) (e : Bool) (x y : ℕ) (xs ys : List ℕ) → has_value (name, cond e (x ∷ xs) (y ∷ ys)) ≡ true
escaped name true x y xs ys = refl
escaped name false x y xs ys = refl

-- what is not empty decodes to a value
pub has_value-decode : (name : List ℕ) (b : ℕ) (bytes : List ℕ) → has_value (name, decode (b ∷ bytes)) ≡ true
unfolding percent_decode
has_value-decode name b [] = refl
has_value-decode name b (c ∷ []) = refl
has_value-decode name b (high ∷ low ∷ rest) = escaped name (is_escape (plus_to_space b) (plus_to_space high) (plus_to_space low)) _ _ _ _

pub no_value : (n value name : List ℕ) → (length value == 0) ≡ true → false ≡ has_value (n, decode value) && bears name (n, decode value)
unfolding percent_decode
no_value n [] name e = refl
no_value n (b ∷ bytes) name e = absurd (search rules)

pub some_value : (n value name : List ℕ) → (length value == 0) ≡ false → bears name (n, decode value) ≡ has_value (n, decode value) && bears name (n, decode value)
some_value n [] name e = absurd (search rules)
some_value n (b ∷ bytes) name e = rw (has_value-decode n b bytes) refl

-- the same of a result that may want memory
pub is_sent_of_name : {E : Type 0} (r : Result Bool E) (n value name : List ℕ) → (length value == 0) ≡ false → IfOk r (λ is. is ≡ bears name (n, decode value)) → IfOk r (λ is. is ≡ has_value (n, decode value) && bears name (n, decode value))
is_sent_of_name (Ok is) n value name e same = same ∙ some_value n value name e
is_sent_of_name (Err error) n value name e same = tt
