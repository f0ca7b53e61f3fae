-- The members of a body that may tell an error, a turn at a time.
use Rattle.std.proofs.Common.{◌≡◌, ℕ, zero, suc, ◌-◌, ◌<◌, ◌≤◌, List, [], ◌∷◌, length, Bool, true, false, ◌&&◌, ◌||◌, not, Option, Some, None, option_and_then, refl, sym, ap, ◌∙◌, arith}
use Rattle.std.specs.Prelude.{bytes_eq, codes, is_some}
use Rattle.std.specs.Bool.{MatchBool, OnTrue}
use Rattle.json.specs.Token.{Token}
use Rattle.json.specs.Reads.{Yields}
use Rattle.json.specs.declared.token.Token.{Token as Given}
use Rattle.json.specs.Json.{Json, object, array, Items, Members, member, Parse, string, parse_map, read_key, members, value, skip_value, if_last}
use Rattle.json.proofs.Grammar.{members_end, members_no_key, members_more, value-begin_object, value_is, left, left_some}
use Rattle.oauth2_adapters.specs.Objects.{members_of, any_member, is_text}
use Rattle.oauth2_adapters.specs.ErrorsAtStatus200.{is_error, is_no_error, tells_error}
use Rattle.oauth2_adapters.specs.private.First.{begins_with_brace, begins_with_text}
use Rattle.oauth2_adapters.specs.private.Tokens.{object_at}
use Rattle.oauth2_adapters.proofs.ObjectTokens.{object_at-no_brace}
use Rattle.oauth2_adapters.specs.private.ErrorMembers.{told_in, is_told, told_at_end, MayStandInError, StandsInNone}

-- one more member, over the two tests
one_more : (f x e m y n : Bool) → x ≡ e → y ≡ false → (f || (x || m)) && not (y || n) ≡ ((f || e) || m) && not n
one_more f x e m true n is not_wrong = absurd (cc)
one_more true x e m false n is not_wrong = refl
one_more false true true m false n is not_wrong = refl
one_more false false false m false n is not_wrong = refl
one_more false true false m false n is not_wrong = absurd (cc)
one_more false false true m false n is not_wrong = absurd (cc)

-- a member that not_wrong error has, over the two tests
one_wrong : (a y n : Bool) → y ≡ true → a && not (y || n) ≡ false
one_wrong true true n is = refl
one_wrong false true n is = refl
one_wrong a false n is = absurd (cc)

with_member : (found : Bool) (k : List ℕ) (j : Json) → is_no_error k j ≡ false → is_error k j ≡ bytes_eq k (codes "error") → (o : Option (Members × List Token))
    → told_in found (parse_map (member k j) o) ≡ told_in (found || bytes_eq k (codes "error")) o
with_member found k j not_wrong is None = refl
with_member found k j not_wrong is (Some p) =
    ap (λ b. Some (b, p.1)) (one_more found (is_error k j) (bytes_eq k (codes "error")) (any_member is_error p.0) (is_no_error k j) (any_member is_no_error p.0) is not_wrong)

with_wrong_member : (found : Bool) (k : List ℕ) (j : Json) → is_no_error k j ≡ true → (o : Option (Members × List Token)) → is_told (told_in found (parse_map (member k j) o)) ≡ false
with_wrong_member found k j is None = refl
with_wrong_member found k j is (Some p) =
    one_wrong (found || (is_error k j || any_member is_error p.0)) (is_no_error k j) (any_member is_no_error p.0) is

no_error_after : (found : Bool) (k : List ℕ) (more : Parse Members) (o : Option (Json × List Token)) → ((j : Json) (r : List Token) → o ≡ Some (j, r) → is_no_error k j ≡ true)
    → is_told (told_in found (option_and_then (λ q. parse_map (member k q.0) (more q.1)) o)) ≡ false
no_error_after found k more None is = refl
no_error_after found k more (Some (j, r)) is = with_wrong_member found k j (is j r refl) (more r)

pub told_member : (found : Bool) (n : ℕ) (k : List ℕ) (ts s r : List Token) (j : Json) → 0 < n → read_key ts ≡ Some (Some k, s) → value 126 s ≡ Some (j, r)
    → is_no_error k j ≡ false → is_error k j ≡ bytes_eq k (codes "error")
    → told_in found (members (value 126) n ts) ≡ told_in (found || bytes_eq k (codes "error")) (members (value 126) (n - 1) r)
told_member found n k ts s r j some key read not_wrong is =
    ap (told_in found) (members_more (value 126) n k ts s r j some key read) ∙ with_member found k j not_wrong is _

pub told_wrong_member : (found : Bool) (n : ℕ) (k : List ℕ) (ts s : List Token) → read_key ts ≡ Some (Some k, s) → StandsInNone k s → is_told (told_in found (members (value 126) n ts)) ≡ false
unfolding members
told_wrong_member found zero k ts s key is = refl
told_wrong_member found (suc n) k ts s key is = rw key (no_error_after found k (members (value 126) n) (value 126 s) is)

pub told_no_key : (found : Bool) (n : ℕ) (ts : List Token) → read_key ts ≡ None → is_told (told_in found (members (value 126) n ts)) ≡ false
told_no_key found n ts e = ap (λ o. is_told (told_in found o)) (members_no_key (value 126) n ts e)

same_found : (found : Bool) → (found || false) && true ≡ found
same_found true = refl
same_found false = refl

pub told_over : (found : Bool) (n : ℕ) (ts r : List Token) → length ts ≤ n → read_key ts ≡ Some (None, r) → told_in found (members (value 126) n ts) ≡ Some (found, r)
told_over found n ts r enough e = ap (told_in found) (members_end (value 126) n ts r enough e) ∙ ap (λ b. Some (b, r)) (same_found found)

-- at the brace
pub found_at_end : (found : Bool) (r : List Token) (told : Option (Bool × List Token)) → told ≡ Some (found, r) → MatchBool found (told ≡ Some (true, r)) (is_told told ≡ false)
found_at_end true r told e = e
found_at_end false r told e = ap is_told e

-- ---- the whole text

whole_object : (o : Option (Members × List Token)) → tells_error (option_and_then members_of (option_and_then (λ p. if_last p.0 p.1) (parse_map object o))) ≡ told_at_end (told_in false o)
whole_object None = refl
whole_object (Some (ms, [])) = refl
whole_object (Some (ms, t ∷ ts)) = refl

-- tokens that open an object
opened : (all ts : List Token) → all ≡ Token.begin_object ∷ ts → tells_error (object_at all) ≡ told_at_end (told_in false (members (value 126) (length ts) ts))
opened all ts first =
    ap (λ all. tells_error (object_at all)) first
    ∙ ap (λ o. tells_error (option_and_then members_of (option_and_then (λ p. if_last p.0 p.1) o))) (value-begin_object 127 ts (omega arith))
    ∙ whole_object (members (value 126) (length ts) ts)

-- tokens that open none tell no error
pub not_opened : (all : List Token) → begins_with_brace all ≡ false → tells_error (object_at all) ≡ false
not_opened all e = ap tells_error (object_at-no_brace all e)

not_told_at_end : (o : Option (Bool × List Token)) → is_told o ≡ false → told_at_end o ≡ false
not_told_at_end None e = refl
not_told_at_end (Some (told, [])) e = e
not_told_at_end (Some (told, t ∷ ts)) e = refl

-- the members tell none
pub none_told : (all ts : List Token) → all ≡ Token.begin_object ∷ ts → is_told (told_in false (members (value 126) (length ts) ts)) ≡ false → tells_error (object_at all) ≡ false
none_told all ts first e = opened all ts first ∙ not_told_at_end (told_in false (members (value 126) (length ts) ts)) e

-- the members tell one, and these tokens follow
pub told_before : (all ts r : List Token) → all ≡ Token.begin_object ∷ ts → told_in false (members (value 126) (length ts) ts) ≡ Some (true, r) → tells_error (object_at all) ≡ told_at_end (Some (true, r))
told_before all ts r first e = opened all ts first ∙ ap told_at_end e

-- whether nothing follows
pub alone : (ts rest : List Token) (next : Option Given) (b : Bool) → Yields ts next rest → is_some next ≡ not b → b ≡ told_at_end (Some (true, ts))
alone [] rest None true yields e = refl
alone [] rest None false yields e = absurd (cc)
alone [] rest (Some t) b yields e = absurd (cc)
alone (t ∷ ts) rest None b yields e = absurd (cc)
alone (t ∷ ts) rest (Some u) true yields e = absurd (cc)
alone (t ∷ ts) rest (Some u) false yields e = refl

-- ---- the value of an `error`

abbrev text_read : Option (Json × List Token) → Bool
text_read None = false
text_read (Some p) = is_text p.0

array_read : (o : Option (Items × List Token)) → text_read (parse_map array o) ≡ false
array_read None = refl
array_read (Some p) = refl

object_read : (o : Option (Members × List Token)) → text_read (parse_map object o) ≡ false
object_read None = refl
object_read (Some p) = refl

no_text : (ts : List Token) → begins_with_text ts ≡ false → text_read (value 126 ts) ≡ false
no_text [] e = ap text_read (value_is 126 [])
no_text (Token.begin_object ∷ ts) e = ap text_read (value_is 126 (Token.begin_object ∷ ts)) ∙ object_read _
no_text (Token.end_object ∷ ts) e = ap text_read (value_is 126 (Token.end_object ∷ ts))
no_text (Token.begin_array ∷ ts) e = ap text_read (value_is 126 (Token.begin_array ∷ ts)) ∙ array_read _
no_text (Token.end_array ∷ ts) e = ap text_read (value_is 126 (Token.end_array ∷ ts))
no_text (Token.key s ∷ ts) e = ap text_read (value_is 126 (Token.key s ∷ ts))
no_text (Token.string s ∷ ts) e = absurd (cc)
no_text (Token.number s ∷ ts) e = ap text_read (value_is 126 (Token.number s ∷ ts))
no_text (Token.boolean b ∷ ts) e = ap text_read (value_is 126 (Token.boolean b ∷ ts))
no_text (Token.null ∷ ts) e = ap text_read (value_is 126 (Token.null ∷ ts))
no_text (Token.bad ∷ ts) e = ap text_read (value_is 126 (Token.bad ∷ ts))

pub no_text_read : (ts r : List Token) (j : Json) → begins_with_text ts ≡ false → value 126 ts ≡ Some (j, r) → is_text j ≡ false
no_text_read ts r j e read = sym (ap text_read read) ∙ no_text ts e

pub text_read_is : (s : List ℕ) (ts r : List Token) → ts ≡ Token.string s ∷ r → value 126 ts ≡ Some (string s, r)
text_read_is s ts r e = ap (value 126) e ∙ value_is 126 (Token.string s ∷ r)

never_both : (o : Option (Json × List Token)) (j : Json) (r : List Token) → left o ≡ None → o ≡ Some (j, r) → ⊥
never_both None j r none found = absurd (cc)
never_both (Some p) j r none found = absurd (cc)

-- the value of a member that no success has
module _ (name : List ℕ) (token : bytes_eq name (codes "access_token") ≡ false) (device : bytes_eq name (codes "device_code") ≡ false) (active : bytes_eq name (codes "active") ≡ false) where
  left_over : (j : Json) → is_no_error name j ≡ (bytes_eq name (codes "error") && not (is_text j))
  left_over j = rw (token, device, active)

  pub text_stands : (before after : List Token) → bytes_eq name (codes "error") ≡ true → (b : Bool) → b ≡ begins_with_text before → OnTrue b ((s : List ℕ) × (before ≡ Token.string s ∷ after))
      → MatchBool b (MayStandInError name before after) (StandsInNone name before)
  text_stands before after error true text rest =
      let j = string rest.0 in
      (j, text_read_is rest.0 before after rest.1, rw rest.1 (omega arith), left_over j ∙ ap (λ b. b && false) error ∙ refl, ap (λ b. b && true) error ∙ sym error)
  text_stands before after error false text rest = λ j r read. left_over j ∙ ap (λ b. b && not (is_text j)) error ∙ ap not (no_text_read before r j (sym text) read)

  pub other_stands : (before after : List Token) → bytes_eq name (codes "error") ≡ false → skip_value 126 before ≡ Some after → length after < length before → MayStandInError name before after
  other_stands before after error read shorter =
      let j = left_some (value 126 before) after read in
      (j.0, j.1, shorter, left_over j.0 ∙ ap (λ b. b && not (is_text j.0)) error, ap (λ b. b && is_text j.0) error ∙ sym error)

pub none_stand : (name : List ℕ) (before : List Token) → skip_value 126 before ≡ None → StandsInNone name before
none_stand name before none j r found = absurd (never_both (value 126 before) j r none found)
