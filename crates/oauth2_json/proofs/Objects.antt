-- Taking members out of an object, and putting them in.
use Rattle.std.proofs.Common.{◌≡◌, ℕ, List, [], ◌∷◌, Option, Some, None, is_some, option_map, Result, Ok, Err, IfOk, Ordering, Less, Equal, Greater, string_bytes, nat_cmp, is_eq, cond, not, ◌&&◌, ◌||◌, Bool, true, false, bytes_eq, true≢false, refl, sym, ap, ◌∙◌}
use Rattle.std.proofs.lemmas.Cmp.{nat_list_cmp_total, tied_itself}
use Rattle.std.proofs.lemmas.Map.Text.{is_eq-slice_cmp}
use Rattle.std.proofs.lemmas.Slice.Eq.{bytes_eq-Decides}
use Rattle.std.specs.Cmp.Lexicographic.{slice_cmp}
use Rattle.std.specs.Map.{remove_entry, lookup}
use Rattle.std.specs.Ordering.{match_ordering}
use Rattle.std.specs.BTreeMap.{is_at}
use Rattle.serde_json.specs.Data.{Data, string, number, unsigned, object, Members, no_members, member, put}
use Rattle.serde_json.specs.Find.{get_member}
use Rattle.serde_json.specs.Written.{members_have_float}
use Rattle.serde_json.specs.View.{view, members_view}
use Rattle.serde_json.specs.declared.value.Value.{Value}
use Rattle.serde_json.proofs.Views.{Entry, view-lookup, get_member-put, get_member-put_other}
use Rattle.oauth2_json.specs.Members.{without, others, put_some, optional_member, clashes, beside}
use Rattle.oauth2_json.specs.Values.{text, whole_number}
use Rattle.oauth2_json.specs.Writing.{Writing, WritesAs, write_then, name_clash, float}
use Rattle.oauth2_json.specs.declared.write.WriteError.{WriteError}

removed_at : (o : Ordering) (e : Entry) (es rest : List Entry) → members_view (cond (is_eq o) es (e ∷ rest)) ≡ match_ordering o (members_view (e ∷ rest)) (members_view es) (members_view (e ∷ rest))
removed_at Less e es rest = refl
removed_at Equal e es rest = refl
removed_at Greater e es rest = refl

-- what `remove` leaves
pub members_view-remove : (name : List ℕ) (es : List Entry) → members_view (remove_entry (is_at (λ k. slice_cmp nat_cmp name (string_bytes k))) es) ≡ without name (members_view es)
members_view-remove name [] = refl
members_view-remove name (e ∷ es) = removed_at (slice_cmp nat_cmp name (string_bytes e.0)) e es _ ∙ rw (members_view-remove name es)

-- at another name nothing changes
pub apart : (q k : List ℕ) → bytes_eq q k ≡ false → is_eq (slice_cmp nat_cmp q k) ≡ false
apart q k h = is_eq-slice_cmp q k ∙ h

pub same_text : (xs : List ℕ) → slice_cmp nat_cmp xs xs ≡ Equal
same_text xs = tied_itself nat_list_cmp_total xs

either : {A : Type 0} (o : Ordering) (a b : A) → is_eq o ≡ false → match_ordering o a b a ≡ a
either Less a b e = refl
either Equal a b e = absurd (true≢false e)
either Greater a b e = refl

skips : (q k : List ℕ) (d : Data) (ms : Members) → bytes_eq q k ≡ false → get_member q (member k d ms) ≡ get_member q ms
skips q k d ms h = either _ _ _ (apart q k h)

get_member-without_at : (o : Ordering) (q k l : List ℕ) (e : Data) (ms : Members) → slice_cmp nat_cmp k l ≡ o → bytes_eq q k ≡ false → get_member q (without k ms) ≡ get_member q ms
    → get_member q (match_ordering o (member l e (without k ms)) ms (member l e (without k ms))) ≡ get_member q (member l e ms)
get_member-without_at Less q k l e ms is h later = ap (λ r. match_ordering (slice_cmp nat_cmp q l) r (Some e) r) later
get_member-without_at Equal q k l e ms is h later =
    let same : k ≡ l = (bytes_eq-Decides k l).0 (sym (is_eq-slice_cmp k l) ∙ ap is_eq is) in
    sym (skips q l e ms (rw (← same) h))
get_member-without_at Greater q k l e ms is h later = ap (λ r. match_ordering (slice_cmp nat_cmp q l) r (Some e) r) later

pub get_member-without : (q k : List ℕ) (ms : Members) → bytes_eq q k ≡ false → get_member q (without k ms) ≡ get_member q ms
get_member-without q k no_members h = refl
get_member-without q k (member l e ms) h = get_member-without_at _ q k l e ms refl h (get_member-without q k ms h)

pub ruleset member_facts = get_member-without

still_some : (o : Option Value) → is_some (option_map view o) ≡ is_some o
still_some None = refl
still_some (Some v) = refl

-- whether a name is there
pub is_some-lookup : (name : List ℕ) (es : List Entry) → is_some (lookup (is_at (λ k. slice_cmp nat_cmp name (string_bytes k))) es) ≡ is_some (get_member name (members_view es))
is_some-lookup name es = sym (still_some (lookup (is_at (λ k. slice_cmp nat_cmp name (string_bytes k))) es)) ∙ ap is_some (view-lookup name es)

-- ---- members that were put in

pub pass_put : (q k : List ℕ) (d : Data) (ms : Members) → bytes_eq q k ≡ false → get_member q (put k d ms) ≡ get_member q ms
pass_put q k d ms h = get_member-put_other q k d ms (λ e. true≢false (sym ((bytes_eq-Decides q k).1 e) ∙ h))

pub find_some : (k : List ℕ) (o : Option Data) (ms : Members) → get_member k ms ≡ None → get_member k (put_some k o ms) ≡ o
find_some k None ms h = h
find_some k (Some d) ms h = get_member-put k d ms

pub pass_some : (q k : List ℕ) (o : Option Data) (ms : Members) → bytes_eq q k ≡ false → get_member q (put_some k o ms) ≡ get_member q ms
pass_some q k None ms h = refl
pass_some q k (Some d) ms h = pass_put q k d ms h

same_at : (o : Ordering) (k l : List ℕ) (d e : Data) (ms : Members) → slice_cmp nat_cmp k l ≡ o → match_ordering o (get_member k ms) (Some e) (get_member k ms) ≡ None → (get_member k ms ≡ None → without k (put k d ms) ≡ ms)
    → without k (match_ordering o (member k d (member l e ms)) (member l d ms) (member l e (put k d ms))) ≡ member l e ms
same_at Less k l d e ms is h later = rw same_text refl
same_at Equal k l d e ms is h later = cc
same_at Greater k l d e ms is h later = rw (is, later h) refl

-- what was put in, taken out again
pub without-put : (k : List ℕ) (d : Data) (ms : Members) → get_member k ms ≡ None → without k (put k d ms) ≡ ms
without-put k d no_members h = rw same_text refl
without-put k d (member l e ms) h = same_at _ k l d e ms refl h (without-put k d ms)

absent_at : (o : Ordering) (k l : List ℕ) (e : Data) (ms : Members) → match_ordering o (get_member k ms) (Some e) (get_member k ms) ≡ None → (get_member k ms ≡ None → without k ms ≡ ms)
    → match_ordering o (member l e (without k ms)) ms (member l e (without k ms)) ≡ member l e ms
absent_at Less k l e ms h later = ap (member l e) (later h)
absent_at Equal k l e ms h later = cc
absent_at Greater k l e ms h later = ap (member l e) (later h)

-- nothing to take out
pub without-absent : (k : List ℕ) (ms : Members) → get_member k ms ≡ None → without k ms ≡ ms
without-absent k no_members h = refl
without-absent k (member l e ms) h = absent_at (slice_cmp nat_cmp k l) k l e ms h (without-absent k ms)

pub without-some : (k : List ℕ) (o : Option Data) (ms : Members) → get_member k ms ≡ None → without k (put_some k o ms) ≡ ms
without-some k None ms h = without-absent k ms h
without-some k (Some d) ms h = without-put k d ms h

-- ---- optional members read back

pub optional-text : (name : List ℕ) (o : Option (List ℕ)) → optional_member text name (option_map string o) ≡ Ok o
optional-text name None = refl
optional-text name (Some s) = refl

-- what a writer answers has what its writing has
pub if_written : (result : Result Value WriteError) (w : Writing) (R : Data → Type 0) → WritesAs result w → ((d : Data) → w ≡ Ok d → R d) → IfOk result (λ v. R (view v))
if_written (Ok v) w R h f = f (view v) h
if_written (Err e) w R h f = tt

-- no k among ks is q
abbrev pub misses : List ℕ → List (List ℕ) → Bool
misses q [] = true
misses q (k ∷ ks) = not (bytes_eq q k) && misses q ks

missed_at : (b : Bool) (q k : List ℕ) (ks : List (List ℕ)) (ms : Members) → bytes_eq q k ≡ b → not b && misses q ks ≡ true → (misses q ks ≡ true → get_member q (others ks (without k ms)) ≡ get_member q (without k ms)) → get_member q (others ks (without k ms)) ≡ get_member q ms
missed_at true q k ks ms e h later = cc
missed_at false q k ks ms e h later = later h ∙ get_member-without q k ms e

-- what is left once the ks are taken out still has q
pub get_member-others : (q : List ℕ) (ks : List (List ℕ)) (ms : Members) → misses q ks ≡ true → get_member q (others ks ms) ≡ get_member q ms
get_member-others q [] ms h = refl
get_member-others q (k ∷ ks) ms h = missed_at (bytes_eq q k) q k ks ms refl h (get_member-others q ks (without k ms))

not_there : (b : Bool) (o : Option Data) → is_some o || b ≡ false → (o ≡ None) × (b ≡ false)
not_there b None h = (refl, h)
not_there b (Some d) h = cc

-- an own name that does not clash is absent
pub absent_first : (k : List ℕ) (ks : List (List ℕ)) (ms : Members) → clashes (k ∷ ks) ms ≡ false → (get_member k ms ≡ None) × (clashes ks ms ≡ false)
absent_first k ks ms h = not_there (clashes ks ms) (get_member k ms) h

taken_if : (b c : Bool) (ms : Members) (f : Members → Data) (d : Data) → write_then (cond b (Err name_clash) (cond c (Err float) (Ok ms))) (λ m. Ok (f m)) ≡ Ok d → (b ≡ false) × (f ms ≡ d)
taken_if true c ms f d h = cc
taken_if false true ms f d h = cc
taken_if false false ms f d h = (refl, cc)

-- where a value is written, no own name clashed
pub beside_taken : (own : List (List ℕ)) (ms : Members) (f : Members → Data) (d : Data) → write_then (beside own (object ms)) (λ m. Ok (f m)) ≡ Ok d → (clashes own ms ≡ false) × (f ms ≡ d)
beside_taken own ms f d h = taken_if (clashes own ms) (members_have_float ms) ms f d h

pub optional-number : (name : List ℕ) (o : Option ℕ) → optional_member whole_number name (option_map (λ n. number (unsigned n)) o) ≡ Ok o
optional-number name None = refl
optional-number name (Some n) = refl
