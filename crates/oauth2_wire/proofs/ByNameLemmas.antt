-- Every pair that is set is read by its name.
use Rattle.std.proofs.Common.{◌≡◌, ℕ, List, [], ◌∷◌, ◌++◌, Option, None, Some, Bool, true, false, ◌&&◌, ◌||◌, not, filter, All, codes, ap, ◌∙◌, sym, refl, subst, append_assoc, bytes_eq}
use Rattle.std.specs.List.{list_all, list_any}
use Rattle.std.proofs.lemmas.Bool.{cond-true, cond-false, not-true, false≢true}
use Rattle.std.proofs.lemmas.List.Elements.{All-nil, All-cons, All-append, All-weaker, filter-append}
use Rattle.std.proofs.lemmas.List.Sums.{AllPass-from_list_all}
use Rattle.std.proofs.lemmas.Slice.Eq.{bytes_eq-Decides}
use Rattle.oauth2_form.specs.Pairs.{Pair}
use Rattle.oauth2_wire.specs.Expected.{Configuration, optional_pair, body_credentials, expected_basic, set_pairs, expected_pairs}
use Rattle.oauth2_wire.specs.ByName.{bears, sole, read_by_name, is_request_name, is_shared_name, is_own_name, are_distinct, are_request_pairs, avoid_own_names, ReadsByName}

not_true : (r : Bool) → (r ≡ true → ⊥) → r ≡ false
not_true true h = absurd (h refl)
not_true false h = refl

and_left : (a b : Bool) → (a && b) ≡ true → a ≡ true
and_left true b h = refl
and_left false b h = h

and_right : (a b : Bool) → (a && b) ≡ true → b ≡ true
and_right true b h = h
and_right false b h = absurd (false≢true h)

or_left : (a b : Bool) → a ≡ true → (a || b) ≡ true
or_left true b h = refl
or_left false b h = absurd (false≢true h)

or_right : (a b : Bool) → b ≡ true → (a || b) ≡ true
or_right true b h = refl
or_right false b h = h

or_neither_left : (a b : Bool) → (a || b) ≡ false → a ≡ false
or_neither_left true b h = absurd (false≢true (sym h))
or_neither_left false b h = refl

or_neither_right : (a b : Bool) → (a || b) ≡ false → b ≡ false
or_neither_right true b h = absurd (false≢true (sym h))
or_neither_right false b h = h

-- ---- names

-- a name that passes a test is none that doesn't
other_name : (test : List ℕ → Bool) (a b : List ℕ) → test a ≡ false → test b ≡ true → bytes_eq a b ≡ false
other_name test a b fails passes = not_true (bytes_eq a b) (λ e. false≢true (sym fails ∙ ap test ((bytes_eq-Decides a b).0 e) ∙ passes))

other_name_back : (a b : List ℕ) → bytes_eq a b ≡ false → bytes_eq b a ≡ false
other_name_back a b differ = not_true (bytes_eq b a) (λ e. false≢true (sym differ ∙ (bytes_eq-Decides a b).1 (sym ((bytes_eq-Decides b a).0 e))))

bears_itself : (pair : Pair) → bears pair.0 pair ≡ true
bears_itself pair = (bytes_eq-Decides pair.0 pair.0).1 refl

absent_none : (name : List ℕ) (pair : Pair) (pairs : List Pair) → bears name pair ≡ false → filter (bears name) pairs ≡ [] → filter (bears name) (pair ∷ pairs) ≡ []
absent_none name pair pairs other none = cond-false _ _ _ other ∙ none

-- pairs whose names fail a test that the name passes
absent_by : (test : List ℕ → Bool) (name : List ℕ) (pairs : List Pair) → test name ≡ true → list_all (λ pair. not (test pair.0)) pairs ≡ true → filter (bears name) pairs ≡ []
absent_by test name [] passes all = refl
absent_by test name (pair ∷ pairs) passes all =
    absent_none name pair pairs (other_name test pair.0 name (not-true _ (and_left _ _ all)) passes) (absent_by test name pairs passes (and_right _ _ all))

-- the same the other way round
absent_by_failing : (test : List ℕ → Bool) (name : List ℕ) (pairs : List Pair) → test name ≡ false → list_all (λ pair. test pair.0) pairs ≡ true → filter (bears name) pairs ≡ []
absent_by_failing test name [] fails all = refl
absent_by_failing test name (pair ∷ pairs) fails all =
    absent_none name pair pairs (other_name_back name pair.0 (other_name test name pair.0 fails (and_left _ _ all))) (absent_by_failing test name pairs fails (and_right _ _ all))

absent_any : (name : List ℕ) (pairs : List Pair) → list_any (bears name) pairs ≡ false → filter (bears name) pairs ≡ []
absent_any name [] none = refl
absent_any name (pair ∷ pairs) none = absent_none name pair pairs (or_neither_left _ _ none) (absent_any name pairs (or_neither_right _ _ none))

-- ---- pairs that alone bear their names

abbrev IsSoleIn : List Pair → Pair → Type 0
IsSoleIn pairs pair = filter (bears pair.0) pairs ≡ pair ∷ []

abbrev IsAbsentFrom : List Pair → Pair → Type 0
IsAbsentFrom pairs pair = filter (bears pair.0) pairs ≡ []

sole_before : (front back : List Pair) (pair : Pair) → IsSoleIn front pair × IsAbsentFrom back pair → IsSoleIn (front ++ back) pair
sole_before front back pair h = filter-append (bears pair.0) front back ∙ ap (λ x. x ++ filter (bears pair.0) back) h.0 ∙ ap (λ x. pair ∷ x) h.1

sole_after : (front back : List Pair) (pair : Pair) → IsAbsentFrom front pair × IsSoleIn back pair → IsSoleIn (front ++ back) pair
sole_after front back pair h = filter-append (bears pair.0) front back ∙ ap (λ x. x ++ filter (bears pair.0) back) h.0 ∙ h.1

both : (P Q : Pair → Type 0) (pairs : List Pair) → All P pairs → All Q pairs → All (λ pair. P pair × Q pair) pairs
both P Q pairs p q = λ k d inside. (p k d inside, q k d inside)

sole_append : (front back : List Pair) → All (IsSoleIn front) front → All (IsSoleIn back) back → All (IsAbsentFrom back) front → All (IsAbsentFrom front) back → All (IsSoleIn (front ++ back)) (front ++ back)
sole_append front back soles more_soles apart apart_too =
    All-append (IsSoleIn (front ++ back)) front back
    (All-weaker (λ pair. IsSoleIn front pair × IsAbsentFrom back pair) (IsSoleIn (front ++ back)) (sole_before front back) front (both (IsSoleIn front) (IsAbsentFrom back) front soles apart))
    (All-weaker (λ pair. IsAbsentFrom front pair × IsSoleIn back pair) (IsSoleIn (front ++ back)) (sole_after front back) back (both (IsAbsentFrom front) (IsSoleIn back) back apart_too more_soles))

-- no later pair bears the first one's name
first_apart : (pair : Pair) (pairs : List Pair) → list_any (bears pair.0) pairs ≡ false → All (IsAbsentFrom (pair ∷ [])) pairs
first_apart pair [] none = All-nil (IsAbsentFrom (pair ∷ []))
first_apart pair (next ∷ pairs) none =
    All-cons (IsAbsentFrom (pair ∷ [])) next pairs (cond-false _ _ _ (other_name_back next.0 pair.0 (or_neither_left _ _ none))) (first_apart pair pairs (or_neither_right _ _ none))

sole_distinct : (pairs : List Pair) → are_distinct pairs ≡ true → All (IsSoleIn pairs) pairs
sole_distinct [] distinct = All-nil (IsSoleIn [])
sole_distinct (pair ∷ pairs) distinct =
    let none : list_any (bears pair.0) pairs ≡ false = not-true _ (and_left _ _ distinct) in
    sole_append (pair ∷ []) pairs
    (All-cons (IsSoleIn (pair ∷ [])) pair [] (cond-true _ _ _ (bears_itself pair)) (All-nil (IsSoleIn (pair ∷ []))))
    (sole_distinct pairs (and_right _ _ distinct))
    (All-cons (IsAbsentFrom pairs) pair [] (absent_any pair.0 pairs none) (All-nil (IsAbsentFrom pairs)))
    (first_apart pair pairs none)

-- ---- the pairs of a request

-- what follows a request's own pairs
abbrev shared_pairs : Option (List ℕ) → Option Pair → List ℕ → Option (List ℕ) → Option (List ℕ) → List Pair
shared_pairs scope basic id secret redirect =
    optional_pair (codes "scope") scope ++ (body_credentials basic id secret ++ optional_pair (codes "redirect_uri") redirect)

-- their names are shared ones, and none stands twice
abbrev are_shared_pairs : List Pair → Bool
are_shared_pairs pairs = list_all (λ pair. is_shared_name pair.0) pairs && (list_all (λ pair. not (is_request_name pair.0)) pairs && are_distinct pairs)

shared_pairs_are : (scope : Option (List ℕ)) (basic : Option Pair) (id : List ℕ) (secret redirect : Option (List ℕ)) → are_shared_pairs (shared_pairs scope basic id secret redirect) ≡ true
unfolding is_request_name is_shared_name
shared_pairs_are None (Some pair) id secret None = refl
shared_pairs_are None (Some pair) id secret (Some url) = refl
shared_pairs_are None None id None None = refl
shared_pairs_are None None id None (Some url) = refl
shared_pairs_are None None id (Some secret) None = refl
shared_pairs_are None None id (Some secret) (Some url) = refl
shared_pairs_are (Some scope) (Some pair) id secret None = refl
shared_pairs_are (Some scope) (Some pair) id secret (Some url) = refl
shared_pairs_are (Some scope) None id None None = refl
shared_pairs_are (Some scope) None id None (Some url) = refl
shared_pairs_are (Some scope) None id (Some secret) None = refl
shared_pairs_are (Some scope) None id (Some secret) (Some url) = refl

abbrev PassesName : (List ℕ → Bool) → Pair → Type 0
PassesName test pair = test pair.0 ≡ true

abbrev FailsName : (List ℕ → Bool) → Pair → Type 0
FailsName test pair = not (test pair.0) ≡ true

passing : (test : List ℕ → Bool) (pairs : List Pair) → list_all (λ pair. test pair.0) pairs ≡ true → All (PassesName test) pairs
passing test pairs all = AllPass-from_list_all (λ pair. test pair.0) pairs all

failing : (test : List ℕ → Bool) (pairs : List Pair) → list_all (λ pair. not (test pair.0)) pairs ≡ true → All (FailsName test) pairs
failing test pairs all = AllPass-from_list_all (λ pair. not (test pair.0)) pairs all

-- a request's own pairs and what follows them are apart
soles_of_set : (own shared : List Pair) → are_request_pairs own ≡ true → are_shared_pairs shared ≡ true → All (IsSoleIn (own ++ shared)) (own ++ shared)
soles_of_set own shared of_request of_shared =
    let in_request = and_left _ _ of_request in
    let not_in_request = and_left _ _ (and_right _ _ of_shared) in
    sole_append own shared (sole_distinct own (and_right _ _ of_request)) (sole_distinct shared (and_right _ _ (and_right _ _ of_shared)))
    (All-weaker (PassesName is_request_name) (IsAbsentFrom shared) (λ pair passes. absent_by is_request_name pair.0 shared passes not_in_request) own (passing is_request_name own in_request))
    (All-weaker (FailsName is_request_name) (IsAbsentFrom own) (λ pair fails. absent_by_failing is_request_name pair.0 own (not-true _ fails) in_request) shared (failing is_request_name shared not_in_request))

-- no extra parameter bears the name of one that is set
absent_from_extra : (own shared extra : List Pair) → are_request_pairs own ≡ true → are_shared_pairs shared ≡ true → avoid_own_names extra ≡ true → All (IsAbsentFrom extra) (own ++ shared)
absent_from_extra own shared extra of_request of_shared avoid =
    All-append (IsAbsentFrom extra) own shared
    (All-weaker (PassesName is_request_name) (IsAbsentFrom extra) (λ pair passes. absent_by is_own_name pair.0 extra (or_left _ _ passes) avoid) own (passing is_request_name own (and_left _ _ of_request)))
    (All-weaker (PassesName is_shared_name) (IsAbsentFrom extra) (λ pair passes. absent_by is_own_name pair.0 extra (or_right _ _ passes) avoid) shared (passing is_shared_name shared (and_left _ _ of_shared)))

read_where_sole : (pairs : List Pair) (pair : Pair) → IsSoleIn pairs pair → read_by_name pair.0 pairs ≡ Some pair.1
read_where_sole pairs pair h = ap sole h

reads_all : (pairs set extra : List Pair) → pairs ≡ set ++ extra → All (IsSoleIn set) set → All (IsAbsentFrom extra) set → All (λ pair. read_by_name pair.0 pairs ≡ Some pair.1) set
reads_all pairs set extra e soles absent =
    All-weaker (λ pair. IsSoleIn set pair × IsAbsentFrom extra pair) (λ pair. read_by_name pair.0 pairs ≡ Some pair.1)
    (λ pair h. read_where_sole pairs pair (ap (filter (bears pair.0)) e ∙ sole_before set extra pair h)) set (both (IsSoleIn set) (IsAbsentFrom extra) set soles absent)

-- the pairs that are set, grouped as a request's own and what follows
set_pairs_are : (c : Configuration) → set_pairs c ≡ c.own_pairs ++ shared_pairs c.scope (expected_basic c) c.client_id c.client_secret c.redirect_uri
set_pairs_are c =
    let scope = optional_pair (codes "scope") c.scope in
    let credentials = body_credentials (expected_basic c) c.client_id c.client_secret in
    let redirect = optional_pair (codes "redirect_uri") c.redirect_uri in
    append_assoc (c.own_pairs ++ scope) credentials redirect ∙ append_assoc c.own_pairs scope (credentials ++ redirect)

pub by_name : (c : Configuration) (pairs : List Pair) → pairs ≡ expected_pairs c → ReadsByName c pairs
unfolding ReadsByName
by_name c pairs e = λ of_request avoid.
    let shared = shared_pairs c.scope (expected_basic c) c.client_id c.client_secret c.redirect_uri in
    let of_shared = shared_pairs_are c.scope (expected_basic c) c.client_id c.client_secret c.redirect_uri in
    let grouped = set_pairs_are c in
    subst (All (λ pair. read_by_name pair.0 pairs ≡ Some pair.1)) (sym grouped)
    (reads_all pairs (c.own_pairs ++ shared) c.extra_params (e ∙ ap (λ x. x ++ c.extra_params) grouped)
    (soles_of_set c.own_pairs shared of_request of_shared) (absent_from_extra c.own_pairs shared c.extra_params of_request of_shared avoid))
