-- Lists of values, read one after another.
use Rattle.std.proofs.Common.{◌≡◌, ℕ, List, [], ◌∷◌, ◌++◌, true, Option, Some, None, is_some, option_map, option_and_then, Ok, refl, ap}
use Rattle.json.specs.Json as json
use Rattle.serde_json.specs.Data.{Data, Items, no_items, item, Members, put}
use Rattle.serde_json.specs.Read.{of_json, of_items, of_members}
use Rattle.serde_json.specs.View.{items_of}
use Rattle.oauth2_body_members.specs.private.Texts.{or_not_json}

-- the values that were read, and those to come
abbrev pub after : List Data → Items → Items
after [] ds = ds
after (d ∷ done) ds = item d (after done ds)

pub after-none : (done : List Data) → after done no_items ≡ items_of done
after-none [] = refl
after-none (d ∷ done) = ap (item d) (after-none done)

after-one : (done : List Data) (d : Data) (ds : Items) → after done (item d ds) ≡ after (done ++ d ∷ []) ds
after-one [] d ds = refl
after-one (e ∷ done) d ds = ap (item e) (after-one done d ds)

after-more : (done : List Data) (d : Data) (o : Option Items) → option_map (after done) (option_map (item d) o) ≡ option_map (after (done ++ d ∷ [])) o
after-more done d None = refl
after-more done d (Some ds) = ap Some (after-one done d ds)

pub item_read : (done : List Data) (j : json.Json) (d : Data) (js : json.Items) → of_json j ≡ Some d → option_map (after done) (of_items (json.item j js)) ≡ option_map (after (done ++ d ∷ [])) (of_items js)
item_read done j d js is = rw is (after-more done d (of_items js))

pub item_refused : (done : List Data) (j : json.Json) (js : json.Items) → of_json j ≡ None → option_map (after done) (of_items (json.item j js)) ≡ None
item_refused done j js is = rw is refl

pub member_read : (k : List ℕ) (j : json.Json) (d : Data) (ms : json.Members) (found : Members) → of_json j ≡ Some d → of_members (json.member k j ms) found ≡ of_members ms (put k d found)
member_read k j d ms found is = rw is refl

pub member_refused : (k : List ℕ) (j : json.Json) (ms : json.Members) (found : Members) → of_json j ≡ None → of_members (json.member k j ms) found ≡ None
member_refused k j ms found is = rw is refl

pub or_none : {A : Type 0} (o : Option A) (a : A) → or_not_json o ≡ Ok a → o ≡ Some a
or_none None a h = absurd (cc)
or_none (Some b) a h = cc

-- ---- whether there is a value

then_is_some : {A B : Type 0} (f g : A → Option B) (o : Option A) → ((a : A) → is_some (f a) ≡ is_some (g a)) → is_some (option_and_then f o) ≡ is_some (option_and_then g o)
then_is_some f g None h = refl
then_is_some f g (Some a) h = h a

-- members found before make no difference
found_before : (ms : json.Members) (f g : Members) → is_some (of_members ms f) ≡ is_some (of_members ms g)
found_before json.no_members f g = refl
found_before (json.member k j ms) f g =
    then_is_some (λ d. of_members ms (put k d f)) (λ d. of_members ms (put k d g)) (of_json j) (λ d. found_before ms (put k d f) (put k d g))

some_of : {A : Type 0} (o : Option A) → is_some o ≡ true → (a : A) × (o ≡ Some a)
some_of None h = absurd (cc)
some_of (Some a) h = (a, refl)

pub member_past : (k : List ℕ) (j : json.Json) (ms : json.Members) (found : Members) → is_some (of_json j) ≡ true
    → is_some (of_members (json.member k j ms) found) ≡ is_some (of_members ms found)
member_past k j ms found h = let s = some_of (of_json j) h in rw (s.1) (found_before ms (put k s.0 found) found)
