-- Members that are taken out of a list.
use Rattle.std.proofs.Common.{◌≡◌, ℕ, ◌+◌, ◌<◌, ◌≤◌, List, [], ◌∷◌, ◌++◌, length, take, drop, set, get_or, map, cond, ◌&&◌, Bool, true, false, true≢false, Option, Some, None, option_map, Ordering, Less, Equal, Greater, is_eq, nat_cmp, bytes_eq, refl, sym, ap, ◌∙◌, arith, take_all, append_assoc}
use Rattle.std.proofs.Math.Seq.{set-append_seam, get_or-append_seam}
use Rattle.std.proofs.lemmas.List.{length-map, length-take-le, map-append, take_more, drop_more, drop_all}
use Rattle.std.specs.Option.{option_or}
use Rattle.std.proofs.lemmas.Cmp.{nat_list_cmp_total}
use Rattle.std.proofs.lemmas.Map.Text.{is_eq-slice_cmp}
use Rattle.std.proofs.lemmas.Slice.Eq.{bytes_eq-Decides}
use Rattle.std.specs.Cmp.Lexicographic.{slice_cmp}
use Rattle.std.specs.Ordering.{match_ordering}
use Rattle.serde_json.specs.Data.{Data, Members, no_members, member, put}
use Rattle.serde_json.specs.Find.{get_member}
use Rattle.serde_json.specs.View.{view}
use Rattle.serde_json.proofs.Views.{get_member-put}
use Rattle.oauth2_json.specs.Members.{without, put_some}
use Rattle.oauth2_json.specs.Puts.{is_before, in_order}
use Rattle.oauth2_json.proofs.Objects.{apart, same_text, pass_put, without-absent}
use Rattle.oauth2_json.proofs.Order.{put-order}
use Rattle.oauth2_body_members.specs.private.Taken.{blank_at}
use Rattle.oauth2_body_members.specs.Object.{put_each, entry_of, list_members}
use Rattle.oauth2_body_members.specs.declared.member.Member.{Member}

abbrev pub blanked : List ℕ → List Member → List Member
blanked k list = map (blank_at k) list

-- the value of the last member of that name
abbrev pub last_value : List ℕ → List (List ℕ × Option Data) → Option Data
last_value k [] = None
last_value k (e ∷ es) = option_or (last_value k es) (cond (bytes_eq e.0 k) e.1 None)

-- ---- names

flip_at : (x y : List ℕ) (b : Bool) → bytes_eq y x ≡ b → bytes_eq x y ≡ false → b ≡ false
flip_at x y true e h = absurd (true≢false (sym ((bytes_eq-Decides x y).1 (sym ((bytes_eq-Decides y x).0 e))) ∙ h))
flip_at x y false e h = refl

flip : (x y : List ℕ) → bytes_eq x y ≡ false → bytes_eq y x ≡ false
flip x y h = flip_at x y (bytes_eq y x) refl h

same_name : (x y : List ℕ) → slice_cmp nat_cmp x y ≡ Equal → x ≡ y
same_name x y is = (bytes_eq-Decides x y).0 (sym (is_eq-slice_cmp x y) ∙ ap is_eq is)

-- ---- members in order

less_of : (o : Ordering) → match_ordering o true false false ≡ true → o ≡ Less
less_of Less h = refl
less_of Equal h = absurd (true≢false (sym h))
less_of Greater h = absurd (true≢false (sym h))

before_later : (k l : List ℕ) (ms : Members) → slice_cmp nat_cmp k l ≡ Less → is_before l ms ≡ true → is_before k ms ≡ true
before_later k l no_members is h = refl
before_later k l (member m e ms) is h = rw (nat_list_cmp_total.trans k l m is (less_of _ h)) refl

both : (a b : Bool) → a && b ≡ true → (a ≡ true) × (b ≡ true)
both true b h = (refl, h)
both false b h = (h, cc)

-- a name before all is none of them
absent_before : (k : List ℕ) (ms : Members) → is_before k ms ≡ true → in_order ms ≡ true → get_member k ms ≡ None
absent_before k no_members b h = refl
absent_before k (member m e ms) b h =
    let is = less_of _ b in
    let order = both _ _ h in
    rw is (absent_before k ms (before_later k m ms is order.0) order.1)

put_first : (k : List ℕ) (d : Data) (ms : Members) → is_before k ms ≡ true → put k d ms ≡ member k d ms
put_first k d no_members b = refl
put_first k d (member m e ms) b = rw (less_of _ b) refl

put_same_at : (o : Ordering) (k l : List ℕ) (d e : Data) (ms : Members) → slice_cmp nat_cmp k l ≡ o → is_before l ms && in_order ms ≡ true → without k (put k d ms) ≡ without k ms
    → without k (match_ordering o (member k d (member l e ms)) (member l d ms) (member l e (put k d ms))) ≡ match_ordering o (member l e (without k ms)) ms (member l e (without k ms))
put_same_at Less k l d e ms is h later =
    let order = both _ _ h in
    rw same_text (ap (member l e) (sym (without-absent k ms (absent_before k ms (before_later k l ms is order.0) order.1))))
put_same_at Equal k l d e ms is h later = rw is refl
put_same_at Greater k l d e ms is h later = rw is (ap (member l e) later)

-- what is put in and taken out again is as if it had never been there
pub without-put_same : (k : List ℕ) (d : Data) (ms : Members) → in_order ms ≡ true → without k (put k d ms) ≡ without k ms
without-put_same k d no_members h = rw same_text refl
without-put_same k d (member l e ms) h = put_same_at _ k l d e ms refl h (without-put_same k d ms (both _ _ h).1)

either : {A : Type 0} (o : Ordering) (a b : A) → is_eq o ≡ false → match_ordering o a b a ≡ a
either Less a b e = refl
either Equal a b e = absurd (true≢false e)
either Greater a b e = refl

passes : (k l : List ℕ) (d : Data) (ms : Members) → bytes_eq k l ≡ false → without k (member l d ms) ≡ member l d (without k ms)
passes k l d ms h = either _ (member l d (without k ms)) ms (apart k l h)

put_other_at : (o p : Ordering) (k l m : List ℕ) (d e : Data) (ms : Members) → slice_cmp nat_cmp l m ≡ o → slice_cmp nat_cmp k m ≡ p → bytes_eq k l ≡ false → is_before m ms && in_order ms ≡ true
    → without k (put l d ms) ≡ put l d (without k ms)
    → without k (match_ordering o (member l d (member m e ms)) (member m d ms) (member m e (put l d ms))) ≡ put l d (match_ordering p (member m e (without k ms)) ms (member m e (without k ms)))
put_other_at Less Less k l m d e ms o p h g later = passes k l d (member m e ms) h ∙ rw (o, p) refl
put_other_at Less Equal k l m d e ms o p h g later = passes k l d (member m e ms) h ∙ rw p (sym (put_first l d ms (before_later l m ms o (both _ _ g).0)))
put_other_at Less Greater k l m d e ms o p h g later = passes k l d (member m e ms) h ∙ rw (o, p) refl
put_other_at Equal Less k l m d e ms o p h g later = rw (o, p) refl
put_other_at Equal Equal k l m d e ms o p h g later = absurd (true≢false (sym ((bytes_eq-Decides k l).1 (same_name k m p ∙ sym (same_name l m o))) ∙ h))
put_other_at Equal Greater k l m d e ms o p h g later = rw (o, p) refl
put_other_at Greater Less k l m d e ms o p h g later = rw (o, p) (ap (member m e) later)
put_other_at Greater Equal k l m d e ms o p h g later = rw p refl
put_other_at Greater Greater k l m d e ms o p h g later = rw (o, p) (ap (member m e) later)

-- one name is taken out of what another was put in
pub without-put_other : (k l : List ℕ) (d : Data) (ms : Members) → bytes_eq k l ≡ false → in_order ms ≡ true → without k (put l d ms) ≡ put l d (without k ms)
without-put_other k l d no_members h g = passes k l d no_members h
without-put_other k l d (member m e ms) h g = put_other_at _ _ k l m d e ms refl refl h g (without-put_other k l d ms h (both _ _ g).1)

-- ---- lists

some-order : (k : List ℕ) (o : Option Data) (ms : Members) → in_order ms ≡ true → in_order (put_some k o ms) ≡ true
some-order k None ms h = h
some-order k (Some d) ms h = put-order k d ms h

without-some_same : (k l : List ℕ) (o : Option Data) (ms : Members) → l ≡ k → in_order ms ≡ true → without k ms ≡ without k (put_some l o ms)
without-some_same k l None ms is h = refl
without-some_same k l (Some d) ms is h = sym (ap (λ n. without k (put n d ms)) is ∙ without-put_same k d ms h)

without-some_other : (k l : List ℕ) (o : Option Data) (ms : Members) → bytes_eq k l ≡ false → in_order ms ≡ true → put_some l o (without k ms) ≡ without k (put_some l o ms)
without-some_other k l None ms h g = refl
without-some_other k l (Some d) ms h g = sym (without-put_other k l d ms h g)

-- one member, blanked or not
blank_one : (b : Bool) (k : List ℕ) (m : Member) (ms : Members) → bytes_eq m.name.now k ≡ b → in_order ms ≡ true
    → put_some (entry_of (cond b (record m { value = None }) m)).0 (entry_of (cond b (record m { value = None }) m)).1 (without k ms) ≡ without k (put_some m.name.now (option_map view m.value) ms)
blank_one true k m ms is h = without-some_same k m.name.now (option_map view m.value) ms ((bytes_eq-Decides m.name.now k).0 is) h
blank_one false k m ms is h = without-some_other k m.name.now (option_map view m.value) ms (flip m.name.now k is) h

swept : (k : List ℕ) (list : List Member) (ms : Members) → in_order ms ≡ true → put_each (map entry_of (blanked k list)) (without k ms) ≡ without k (put_each (map entry_of list) ms)
swept k [] ms h = refl
swept k (m ∷ list) ms h =
    ap (put_each (map entry_of (blanked k list))) (blank_one (bytes_eq m.name.now k) k m ms refl h)
    ∙ swept k list (put_some m.name.now (option_map view m.value) ms) (some-order m.name.now (option_map view m.value) ms h)

-- what is left once each member of that name is none
pub members_in-blanked : (k : List ℕ) (list : List Member) → list_members (blanked k list) ≡ without k (list_members list)
members_in-blanked k list = swept k list no_members refl

option_or_assoc : (a b c : Option Data) → option_or a (option_or b c) ≡ option_or (option_or a b) c
option_or_assoc None b c = refl
option_or_assoc (Some d) b c = refl

found_one : (b : Bool) (k l : List ℕ) (o : Option Data) (ms : Members) → bytes_eq l k ≡ b → get_member k (put_some l o ms) ≡ option_or (cond b o None) (get_member k ms)
found_one true k l None ms is = refl
found_one true k l (Some d) ms is = ap (λ n. get_member k (put n d ms)) ((bytes_eq-Decides l k).0 is) ∙ get_member-put k d ms
found_one false k l None ms is = refl
found_one false k l (Some d) ms is = pass_put k l d ms (flip l k is)

found_in : (k : List ℕ) (es : List (List ℕ × Option Data)) (ms : Members) → get_member k (put_each es ms) ≡ option_or (last_value k es) (get_member k ms)
found_in k [] ms = refl
found_in k (e ∷ es) ms =
    found_in k es (put_some e.0 e.1 ms) ∙ ap (option_or (last_value k es)) (found_one (bytes_eq e.0 k) k e.0 e.1 ms refl) ∙ option_or_assoc (last_value k es) (cond (bytes_eq e.0 k) e.1 None) (get_member k ms)

or_none : (o : Option Data) → option_or o None ≡ o
or_none None = refl
or_none (Some d) = refl

-- the last value of that name is the one that is found
pub last_value-is : (k : List ℕ) (list : List Member) → last_value k (map entry_of list) ≡ get_member k (list_members list)
last_value-is k list = sym (found_in k (map entry_of list) no_members ∙ or_none _)

pub last_value-append : (k : List ℕ) (es : List (List ℕ × Option Data)) (e : List ℕ × Option Data) → last_value k (es ++ e ∷ []) ≡ option_or (cond (bytes_eq e.0 k) e.1 None) (last_value k es)
last_value-append k [] e = sym (or_none _)
last_value-append k (f ∷ es) e = ap (λ o. option_or o (cond (bytes_eq f.0 k) f.1 None)) (last_value-append k es e) ∙ sym (option_or_assoc (cond (bytes_eq e.0 k) e.1 None) (last_value k es) _)

counted : (k : List ℕ) (list : List Member) (n : ℕ) → n < length list → length (blanked k (take n list)) ≡ n
counted k list n within = length-map (take n list) (blank_at k) ∙ length-take-le n list (omega (arith, within))

-- the list holds at n what it held
pub at_place : (k : List ℕ) (list : List Member) (n : ℕ) (d : Member) → n < length list → get_or (blanked k (take n list) ++ drop n list) n d ≡ get_or list n d
at_place k list n d within =
    ap (λ rest. get_or (blanked k (take n list) ++ rest) n d) (drop_more list n d within)
    ∙ ap (λ i. get_or (blanked k (take n list) ++ get_or list n d ∷ drop (n + 1) list) i d) (sym (counted k list n within))
    ∙ get_or-append_seam (blanked k (take n list)) (get_or list n d) (drop (n + 1) list) d

-- the list once one more member was looked at
pub one_more : (k : List ℕ) (list : List Member) (n : ℕ) (m : Member) → get_or list n m ≡ m → n < length list
    → set (blanked k (take n list) ++ drop n list) n (blank_at k m) ≡ blanked k (take (n + 1) list) ++ drop (n + 1) list
one_more k list n m is within =
    let here : drop n list ≡ m ∷ drop (n + 1) list = drop_more list n m within ∙ ap (λ d. d ∷ drop (n + 1) list) is in
    let last : take (n + 1) list ≡ take n list ++ m ∷ [] = take_more list n m within ∙ ap (λ d. take n list ++ d ∷ []) is in
    ap (λ rest. set (blanked k (take n list) ++ rest) n (blank_at k m)) here
    ∙ ap (λ i. set (blanked k (take n list) ++ m ∷ drop (n + 1) list) i (blank_at k m)) (sym (counted k list n within))
    ∙ set-append_seam (blanked k (take n list)) m (drop (n + 1) list) (blank_at k m)
    ∙ sym (append_assoc (blanked k (take n list)) (blank_at k m ∷ []) (drop (n + 1) list))
    ∙ ap (λ done. done ++ drop (n + 1) list) (sym (ap (blanked k) last ∙ map-append (blank_at k) (take n list) (m ∷ [])))

-- the last value among one more member
pub one_later : (k : List ℕ) (list : List Member) (n : ℕ) (m : Member) → get_or list n m ≡ m → n < length list
    → last_value k (map entry_of (take (n + 1) list)) ≡ option_or (cond (bytes_eq m.name.now k) (option_map view m.value) None) (last_value k (map entry_of (take n list)))
one_later k list n m is within =
    let last : take (n + 1) list ≡ take n list ++ m ∷ [] = take_more list n m within ∙ ap (λ d. take n list ++ d ∷ []) is in
    ap (λ ms. last_value k (map entry_of ms)) last ∙ ap (last_value k) (map-append entry_of (take n list) (m ∷ [])) ∙ last_value-append k (map entry_of (take n list)) (entry_of m)

-- where all members were looked at
pub all_looked_at : (k : List ℕ) (list : List Member) (n : ℕ) → length list ≤ n → (take n list ≡ list) × (drop n list ≡ [])
all_looked_at k list n h = (take_all n list h, drop_all n list h)
