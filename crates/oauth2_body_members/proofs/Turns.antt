-- The members of a text, a turn at a time.
use Rattle.std.proofs.Common.{◌≡◌, ℕ, zero, suc, ◌-◌, ◌<◌, ◌≤◌, List, [], ◌∷◌, ◌++◌, length, Option, Some, None, option_map, option_and_then, Ok, Err, refl, ap, ◌∙◌, arith}
use Rattle.json.specs.Token.{Token}
use Rattle.json.specs.Lex.{tokens}
use Rattle.json.specs.Json as json
use Rattle.json.specs.Json.{Parse, parse_map, read_key, members, value, if_last}
use Rattle.json.proofs.Grammar.{members_end, members_no_key, members_more, value-begin_object}
use Rattle.serde_json.specs.Data.{Data, Members, object, no_members, put}
use Rattle.serde_json.specs.Read.{of_json, of_members, converted, read}
use Rattle.oauth2_json.specs.Body.{value_reading}
use Rattle.oauth2_json.specs.Members.{members_of_object, put_some}
use Rattle.oauth2_json.specs.Reading.{Reading, ErrsAs, whole}
use Rattle.oauth2_json.specs.declared.read.ReadError.{ReadError}
use Rattle.oauth2_json.specs.declared.read.ReadError.TheVariants as errors
use Rattle.oauth2_json.specs.declared.read.ParseCause.TheVariants as cause
use Rattle.oauth2_body_members.specs.Object.{put_each}
use Rattle.oauth2_body_members.specs.private.Texts.{or_not_json, at_end}

abbrev pick : {A : Type 0} → A → Option A → A
pick d None = d
pick d (Some a) = a

found : {A B : Type 0} (a : A) (r s : List Token) (x : Option B) (b : B) → option_map {U = B × List Token} (λ y. (y, r)) x ≡ Some (b, s) → (r ≡ s) × (x ≡ Some b)
found a r s None b e = absurd (cc)
found a r s (Some y) b e = let same = ap (pick (y, r)) e in (ap (λ p. p.1) same, ap (λ p. Some p.0) same)

pub converted_some : {A B : Type 0} (f : A → Option B) (o : Option (A × List Token)) (b : B) (r : List Token) → converted f o ≡ Some (b, r) → (a : A) × (o ≡ Some (a, r)) × (f a ≡ Some b)
converted_some f None b r e = absurd (cc)
converted_some f (Some p) b r e = let both = found p.0 p.1 r (f p.0) b e in (p.0, ap (λ s. Some (p.0, s)) both.0, both.1)

refused : {B : Type 0} (r : List Token) (x : Option B) → option_map {U = B × List Token} (λ y. (y, r)) x ≡ None → x ≡ None
refused r None e = refl
refused r (Some y) e = absurd (cc)

with_member : (k : List ℕ) (j : json.Json) (d : Data) (old : Members) → of_json j ≡ Some d → (o : Option (json.Members × List Token))
    → converted (λ ms. of_members ms old) (parse_map (json.member k j) o) ≡ converted (λ ms. of_members ms (put k d old)) o
with_member k j d old e None = refl
with_member k j d old e (Some p) = rw e

without_member : (k : List ℕ) (j : json.Json) (old : Members) → of_json j ≡ None → (o : Option (json.Members × List Token)) → converted (λ ms. of_members ms old) (parse_map (json.member k j) o) ≡ None
without_member k j old e None = refl
without_member k j old e (Some p) = rw e

module _ (p : Parse json.Json) (old : Members) where
  pub member_read : (n : ℕ) (k : List ℕ) (ts s r : List Token) (d : Data) → 0 < n → read_key ts ≡ Some (Some k, s) → converted of_json (p s) ≡ Some (d, r)
      → converted (λ ms. of_members ms old) (members p n ts) ≡ converted (λ ms. of_members ms (put k d old)) (members p (n - 1) r)
  member_read n k ts s r d some key e =
      let j = converted_some of_json (p s) d r e in
      ap (converted (λ ms. of_members ms old)) (members_more p n k ts s r j.0 some key j.1) ∙ with_member k j.0 d old j.2 _

  no_member : (k : List ℕ) (more : Parse json.Members) (o : Option (json.Json × List Token)) → converted of_json o ≡ None
      → converted (λ ms. of_members ms old) (option_and_then (λ q. parse_map (json.member k q.0) (more q.1)) o) ≡ None
  no_member k more None e = refl
  no_member k more (Some q) e = without_member k q.0 old (refused q.1 (of_json q.0) e) (more q.1)

  pub member_refused : (n : ℕ) (k : List ℕ) (ts s : List Token) → read_key ts ≡ Some (Some k, s) → converted of_json (p s) ≡ None → converted (λ ms. of_members ms old) (members p n ts) ≡ None
  unfolding members
  member_refused zero k ts s key e = refl
  member_refused (suc n) k ts s key e = rw key (no_member k (members p n) (p s) e)

  pub key_refused : (n : ℕ) (ts : List Token) → read_key ts ≡ None → converted (λ ms. of_members ms old) (members p n ts) ≡ None
  key_refused n ts e = ap (converted (λ ms. of_members ms old)) (members_no_key p n ts e)

  pub members_over : (n : ℕ) (ts r : List Token) → length ts ≤ n → read_key ts ≡ Some (None, r) → converted (λ ms. of_members ms old) (members p n ts) ≡ Some (old, r)
  members_over n ts r enough e = ap (converted (λ ms. of_members ms old)) (members_end p n ts r enough e)

-- what refuses a part refuses the whole
abbrev in_place_of : {A B : Type 0} → Reading A → Reading B → Reading B
in_place_of (Ok a) r = r
in_place_of (Err e) r = Err e

pub refused_all : {A B : Type 0} (e : ReadError) (o : Option A) (all : Option B) → ErrsAs e (or_not_json o) → (o ≡ None → all ≡ None) → ErrsAs e (or_not_json all)
refused_all errors.Memory o all h g = tt
refused_all {A = A} {B = B} (errors.Fault f) None all h g = rw (g refl) (ap (λ r. in_place_of {A = A} {B = B} r (Err (whole cause.NotJson))) h)
refused_all (errors.Fault f) (Some a) all h g = absurd (cc)

-- ---- the whole text

ended_object : (d : Option Members) → value_reading members_of_object (option_map object d) ≡ or_not_json (at_end (option_map (λ ms. (ms, [])) d))
ended_object None = refl
ended_object (Some ms) = refl

and_more : (d : Option Members) (t : Token) (ts : List Token) → Err (whole cause.NotJson) ≡ or_not_json (at_end (option_map (λ ms. (ms, t ∷ ts)) d))
and_more None t ts = refl
and_more (Some ms) t ts = refl

pub whole_object : (o : Option (json.Members × List Token)) → value_reading members_of_object (option_and_then of_json (option_and_then (λ p. if_last p.0 p.1) (parse_map json.object o)))
    ≡ or_not_json (at_end (converted (λ ms. of_members ms no_members) o))
whole_object None = refl
whole_object (Some (ms, [])) = ended_object (of_members ms no_members)
whole_object (Some (ms, t ∷ ts)) = and_more (of_members ms no_members) t ts

-- ---- members that were read

pub put_each-append : (es : List (List ℕ × Option Data)) (e : List ℕ × Option Data) (ms : Members) → put_each (es ++ e ∷ []) ms ≡ put_some e.0 e.1 (put_each es ms)
put_each-append [] e ms = refl
put_each-append (f ∷ es) e ms = put_each-append es e (put_some f.0 f.1 ms)

-- a text that opens an object is read to its brace
pub opened : (text : List ℕ) (ts : List Token) → tokens text ≡ Token.begin_object ∷ ts
    → value_reading members_of_object (read text) ≡ or_not_json (at_end (converted (λ ms. of_members ms no_members) (members (value 126) (length ts) ts)))
opened text ts first =
    ap (λ all. value_reading members_of_object (option_and_then of_json (option_and_then (λ p. if_last p.0 p.1) (value 127 all)))) first
    ∙ ap (λ o. value_reading members_of_object (option_and_then of_json (option_and_then (λ p. if_last p.0 p.1) o))) (value-begin_object 127 ts (omega arith))
    ∙ whole_object (members (value 126) (length ts) ts)
