-- A text, split at every space.
use Rattle.std.proofs.Common.{◌≡◌, ◌≢◌, ◌↔◌, ℕ, suc, ◌<◌, List, [], ◌∷◌, ◌++◌, length, get_or, Bool, true, false, not, cond, ◌&&◌, eqb, Option, Some, None, option_map, IfSome, IsTrue, Ok, Err, Bor, length-append, append-nil, inl, inr, refl, sym, ap, ◌∙◌, arith, append_assoc}
use Rattle.std.specs.List.{onto_first, slice_split}
use Rattle.std.specs.Prelude.{◌==◌}
use Rattle.std.proofs.lemmas.Bool.{ne_eqb}
use Rattle.std.proofs.lemmas.Bool.Decides.{eqb_tells}
use Rattle.std.proofs.lemmas.Option.{MatchOption-at_some, MatchOption-at_none}
use Rattle.std.proofs.lemmas.Str.Pattern.{IsSplitOnceResult, split_parts}
use Rattle.serde_json.specs.Data.{Data, string}
use Rattle.oauth2_json.specs.Reading.{Reading, Fault, fault_of, ErrsAs, at_member, ◌⊛◌}
use Rattle.oauth2_json.specs.Values.{each_word, words_reading, text}
use Rattle.oauth2_json.specs.Members.{optional_member}
use Rattle.oauth2_json.specs.Helpers.{nullable, words_data}
use Rattle.oauth2_json.specs.declared.read.ReadError.{ReadError}
use Rattle.oauth2_json.specs.declared.read.ReadError.TheVariants as errors
use Rattle.oauth2_json.specs.Words.{joined_words, has_no_space, are_words}

abbrev pub pieces : List ℕ → List (List ℕ)
pieces = slice_split (λ c. c == 32)

no_space : (x : List ℕ) → ((i : ℕ) → i < length x → get_or x i 0 ≢ 32) → has_no_space x ≡ true
no_space [] h = refl
no_space (c ∷ cs) h = rw (ne_eqb c 32 (h 0 (omega arith))) (no_space cs (λ i k. h (suc i) (omega arith)))

first_of_pieces : (b : Bool) (c : ℕ) (cs : List ℕ) → not b && has_no_space cs ≡ true → pieces cs ≡ cs ∷ [] → cond b ([] ∷ pieces cs) (onto_first c (pieces cs)) ≡ (c ∷ cs) ∷ []
first_of_pieces true c cs h e = cc
first_of_pieces false c cs h e = rw e

rest_holds : (b : Bool) (r : Bool) → not b && r ≡ true → r ≡ true
rest_holds true r h = cc
rest_holds false r h = h

pub pieces-last : (x : List ℕ) → has_no_space x ≡ true → pieces x ≡ x ∷ []
pieces-last [] h = refl
pieces-last (c ∷ cs) h = first_of_pieces (eqb c 32) c cs h (pieces-last cs (rest_holds (eqb c 32) _ h))

onto_pieces : (b : Bool) (c : ℕ) (cs y : List ℕ) → not b && has_no_space cs ≡ true → pieces (cs ++ 32 ∷ y) ≡ cs ∷ pieces y → cond b ([] ∷ pieces (cs ++ 32 ∷ y)) (onto_first c (pieces (cs ++ 32 ∷ y))) ≡ (c ∷ cs) ∷ pieces y
onto_pieces true c cs y h e = cc
onto_pieces false c cs y h e = rw e

pub pieces-split : (x y : List ℕ) → has_no_space x ≡ true → pieces (x ++ 32 ∷ y) ≡ x ∷ pieces y
pieces-split [] y h = refl
pieces-split (c ∷ cs) y h = onto_pieces (eqb c 32) c cs y h (pieces-split cs y (rest_holds (eqb c 32) _ h))

pub pieces_first : (bs x y : List ℕ) → bs ≡ x ++ 32 ∷ y → ((i : ℕ) → i < length x → get_or x i 0 ≢ 32) → pieces bs ≡ x ∷ pieces y
pieces_first bs x y e h = rw e (pieces-split x y (no_space x h))

pub pieces_end : (bs : List ℕ) → ((i : ℕ) → i < length bs → get_or bs i 0 ≢ 32) → pieces bs ≡ bs ∷ []
pieces_end bs h = pieces-last bs (no_space bs h)

-- ---- reading the pieces one after another

abbrev pub in_front : {A : Type 0} → List A → Reading (List A) → Reading (List A)
in_front done (Ok later) = Ok (done ++ later)
in_front done (Err e) = Err e

turn : {A : Type 0} (r : Reading (List A)) (done : List A) (a : A) → in_front (done ++ a ∷ []) r ≡ in_front done (Ok (λ (first : A) (later : List A). first ∷ later) ⊛ Ok a ⊛ r)
turn (Ok later) done a = ap Ok (append_assoc done (a ∷ []) later)
turn (Err e) done a = refl

pub each_turn : {A : Type 0} (kind : Data → Reading A) (done : List A) (x : List ℕ) (ps : List (List ℕ)) (a : A) → at_member [] (kind (string x)) ≡ Ok a
    → in_front (done ++ a ∷ []) (each_word kind ps) ≡ in_front done (each_word kind (x ∷ ps))
each_turn kind done x ps a e = rw e (turn (each_word kind ps) done a)

pub each_fault : {A : Type 0} (kind : Data → Reading A) (done : List A) (x : List ℕ) (ps : List (List ℕ)) (f : Fault) → at_member [] (kind (string x)) ≡ Err f
    → in_front done (each_word kind (x ∷ ps)) ≡ Err f
each_fault kind done x ps f e = rw e refl

pub some_parts : (bs : List ℕ) (r : Option (Bor (List ℕ) × Bor (List ℕ))) (x y : Bor (List ℕ)) → IsSplitOnceResult 32 bs r → r ≡ Some (x, y) → pieces bs ≡ x.now ∷ pieces y.now
some_parts bs r x y h is =
    let parts = MatchOption-at_some _ _ (x, y) is (split_parts 32 bs r h (omega arith)) in
    pieces_first bs x.now y.now parts.0 parts.1

pub later_shorter : (bs : List ℕ) (r : Option (Bor (List ℕ) × Bor (List ℕ))) (x y : Bor (List ℕ)) → IsSplitOnceResult 32 bs r → r ≡ Some (x, y) → length y.now < length bs
later_shorter bs r x y h is =
    let parts = MatchOption-at_some _ _ (x, y) is (split_parts 32 bs r h (omega arith)) in
    omega (arith, simp length-append at (ap length parts.0))

pub none_parts : (bs : List ℕ) (r : Option (Bor (List ℕ) × Bor (List ℕ))) → IsSplitOnceResult 32 bs r → r ≡ None → pieces bs ≡ bs ∷ []
none_parts bs r h is = pieces_end bs (MatchOption-at_none _ _ is (split_parts 32 bs r h (omega arith)))

pub ends_with_fault : {A : Type 0} (e : ReadError) (kind : Data → Reading A) (done : List A) (x : List ℕ) (ps qs : List (List ℕ)) (all : Reading (List A)) → ErrsAs e (at_member [] (kind (string x))) → qs ≡ x ∷ ps → in_front done (each_word kind qs) ≡ all → ErrsAs e all
ends_with_fault errors.Memory kind done x ps qs all h is e = tt
ends_with_fault (errors.Fault f) kind done x ps qs all h is e = sym e ∙ rw is (each_fault kind done x ps (fault_of f) h)

-- ---- the laws of words

both : (a b : Bool) → a && b ≡ true → (a ≡ true) × (b ≡ true)
both true b h = (refl, h)
both false b h = (h, cc)

-- a list of words is read back
pub pieces-joined : (ps : List (List ℕ)) → are_words ps ≡ true → pieces (joined_words ps) ≡ ps
pieces-joined [] h = cc
pieces-joined (p ∷ []) h = ap pieces (append-nil p) ∙ pieces-last p (both _ _ h).0
pieces-joined (p ∷ q ∷ ps) h =
    let h' = both _ _ h in
    pieces-split p (joined_words (q ∷ ps)) h'.0 ∙ ap (λ r. p ∷ r) (pieces-joined (q ∷ ps) h'.1)

onto_words : (b : Bool) (c : ℕ) (ps : List (List ℕ)) → b ≡ eqb c 32 → are_words ps ≡ true → are_words (cond b ([] ∷ ps) (onto_first c ps)) ≡ true
onto_words true c [] e h = refl
onto_words true c (p ∷ ps) e h = h
onto_words false c [] e h = rw (← e) refl
onto_words false c (p ∷ ps) e h = rw (← e) h

pub pieces-words : (s : List ℕ) → are_words (pieces s) ≡ true
pieces-words [] = refl
pieces-words (c ∷ cs) = onto_words (eqb c 32) c (pieces cs) refl (pieces-words cs)

-- and nothing else is
pub words_only : (ps : List (List ℕ)) → pieces (joined_words ps) ≡ ps → are_words ps ≡ true
words_only ps e = rw e at (pieces-words (joined_words ps))

eqb_yes : (a b : ℕ) → eqb a b ≡ true → a ≡ b
eqb_yes a b h = elim (eqb_tells a b) [ inl w ↦ w.1 | inr w ↦ cc (h, w.0) ]

join_onto : (b : Bool) (c : ℕ) (ps : List (List ℕ)) → b ≡ eqb c 32 → are_words ps ≡ true → joined_words (cond b ([] ∷ ps) (onto_first c ps)) ≡ c ∷ joined_words ps
join_onto true c [] e h = cc
join_onto true c (p ∷ ps) e h = ap (λ d. d ∷ joined_words (p ∷ ps)) (sym (eqb_yes c 32 (sym e)))
join_onto false c [] e h = refl
join_onto false c (p ∷ ps) e h = refl

-- the text is the one of its pieces
pub joined-pieces : (s : List ℕ) → joined_words (pieces s) ≡ s
joined-pieces [] = refl
joined-pieces (c ∷ cs) = join_onto (eqb c 32) c (pieces cs) refl (pieces-words cs) ∙ ap (λ r. c ∷ r) (joined-pieces cs)

-- texts are read as themselves
pub each-text : (ps : List (List ℕ)) → each_word text ps ≡ Ok ps
each-text [] = refl
each-text (p ∷ ps) = rw (each-text ps)

-- ---- lists that may be absent

pub optional-words : (name : List ℕ) (o : Option (List (List ℕ))) → IfSome o (λ ps. IsTrue (are_words ps)) → optional_member (words_reading text) name (option_map (λ ps. string (joined_words ps)) o) ≡ Ok o
optional-words name None h = refl
optional-words name (Some ps) h = rw (pieces-joined ps h, each-text ps) refl

ok_inner : {A : Type 0} (a b : A) → Ok Some ⊛ at_member [] (Ok a) ≡ Ok (Some b) → a ≡ b
ok_inner a b h = cc

words_back_at : (o : Option (List (List ℕ))) → (nullable (words_reading text) (words_data o) ≡ Ok o) ↔ IfSome o (λ ps. IsTrue (are_words ps))
words_back_at None = (λ _. tt, λ _. refl)
words_back_at (Some ps) = (λ h. words_only ps (ok_inner (pieces (joined_words ps)) ps (rw (each-text (pieces (joined_words ps))) at h)), λ w. rw (pieces-joined ps w, each-text ps) refl)

-- a list reads back exactly where it is one of words
pub words_back : (o : Option (List (List ℕ))) (d : Data) → d ≡ words_data o → (nullable (words_reading text) d ≡ Ok o) ↔ IfSome o (λ ps. IsTrue (are_words ps))
words_back o d e = rw e (words_back_at o)
