-- What holds of a rule, of rules one after another, and of lists of texts.
use Rattle.std.proofs.Common.{◌≡◌, ◌⊎◌, inl, inr, ℕ, suc, zero, ◌<◌, List, [], ◌∷◌, length, get_or, All, Contains, Bool, true, false, true≢false, not, ◌&&◌, ◌||◌, T, Option, Some, None, is_some, Result, Ok, Err, bytes_eq, refl, sym, subst, arith}
use Rattle.std.proofs.lemmas.List.Elements.{All-head, All-tail, All-cons, All-nil}
use Rattle.std.proofs.lemmas.Slice.Eq.{bytes_eq-Decides}
use Rattle.oauth2_openid.specs.Checks.{Verdict, rule, ◌then◌, is_among, are_among}

-- ---- rules

pub rule_held : {E : Type 0} (b : Bool) (e : E) → rule b e ≡ Ok tt → b ≡ true
rule_held true e h = refl
rule_held false e h = absurd (cc)

pub both : {E A : Type 0} (v : Verdict E) (r : Result A E) (a : A) → v then r ≡ Ok a → (v ≡ Ok tt) × (r ≡ Ok a)
both (Ok u) r a h = (refl, h)
both (Err e) r a h = absurd (cc)

-- ---- conditions

pub tested : (b : Bool) → b ≡ true → T b
tested b h = subst T (sym h) tt

pub untested : (b : Bool) → T b → b ≡ true
untested true h = refl
untested false h = absurd h

pub or_left : (a b : Bool) → a ≡ true → a || b ≡ true
or_left a b h = rw h refl

pub or_right : (a b : Bool) → b ≡ true → a || b ≡ true
or_right true b h = refl
or_right false b h = h

pub which : (a b : Bool) → a || b ≡ true → (a ≡ true) ⊎ (b ≡ true)
which true b h = inl refl
which false b h = inr h

and_left : (a b : Bool) → a && b ≡ true → a ≡ true
and_left true b h = refl
and_left false b h = h

and_right : (a b : Bool) → a && b ≡ true → b ≡ true
and_right true b h = h
and_right false b h = absurd (true≢false (sym h))

both_true : (a b : Bool) → a ≡ true → b ≡ true → a && b ≡ true
both_true true b h g = g
both_true false b h g = h

pub absent_held : {A : Type 0} (o : Option A) → not (is_some o) ≡ true → o ≡ None
absent_held None h = refl
absent_held (Some d) h = absurd (true≢false (sym h))

-- ---- texts

pub is_one : (x a b : List ℕ) → (bytes_eq x a ≡ true) ⊎ (bytes_eq x b ≡ true) → (x ≡ a) ⊎ (x ≡ b)
is_one x a b (inl h) = inl ((bytes_eq-Decides x a).0 h)
is_one x a b (inr h) = inr ((bytes_eq-Decides x b).0 h)

pub one_is : (x a b : List ℕ) → (x ≡ a) ⊎ (x ≡ b) → bytes_eq x a || bytes_eq x b ≡ true
one_is x a b (inl h) = or_left (bytes_eq x a) (bytes_eq x b) ((bytes_eq-Decides x a).1 h)
one_is x a b (inr h) = or_right (bytes_eq x a) (bytes_eq x b) ((bytes_eq-Decides x b).1 h)

among_at : (b : Bool) (x a : List ℕ) (list : List (List ℕ)) → bytes_eq a x ≡ b → b || is_among x list ≡ true → (is_among x list ≡ true → Contains list x) → Contains (a ∷ list) x
among_at true x a list e h later = (zero, omega arith, (bytes_eq-Decides a x).0 e)
among_at false x a list e h later = let k = later h in (suc k.0, omega (arith, k.1), k.2)

pub among_Contains : (x : List ℕ) (list : List (List ℕ)) → is_among x list ≡ true → Contains list x
among_Contains x [] h = absurd (true≢false (sym h))
among_Contains x (a ∷ list) h = among_at (bytes_eq a x) x a list refl h (among_Contains x list)

at_among : (x : List ℕ) (list : List (List ℕ)) (k : ℕ) → k < length list → get_or list k x ≡ x → is_among x list ≡ true
at_among x [] k less same = absurd (omega (arith, less))
at_among x (a ∷ list) zero less same = or_left (bytes_eq a x) (is_among x list) ((bytes_eq-Decides a x).1 same)
at_among x (a ∷ list) (suc k) less same = or_right (bytes_eq a x) (is_among x list) (at_among x list k (omega (arith, less)) same)

pub contained_among : (x : List ℕ) (list : List (List ℕ)) → Contains list x → is_among x list ≡ true
contained_among x list h = at_among x list h.0 h.1 h.2

pub all_among : (known list : List (List ℕ)) → are_among list known ≡ true → All (Contains known) list
all_among known [] h = All-nil (Contains known)
all_among known (a ∷ list) h =
    All-cons (Contains known) a list (among_Contains a known (and_left (is_among a known) (are_among list known) h)) (all_among known list (and_right (is_among a known) (are_among list known) h))

pub among_all : (known list : List (List ℕ)) → All (Contains known) list → are_among list known ≡ true
among_all known [] h = refl
among_all known (a ∷ list) h =
    both_true (is_among a known) (are_among list known) (contained_among a known (All-head (Contains known) a list h)) (among_all known list (All-tail (Contains known) a list h))
