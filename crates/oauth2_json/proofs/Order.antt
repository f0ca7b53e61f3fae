-- Members in byte order of their names stay so.
use Rattle.std.proofs.Common.{◌≡◌, ℕ, List, [], ◌∷◌, Bool, true, false, ◌&&◌, Option, Some, None, Ordering, Less, Equal, Greater, nat_cmp, refl, ap, ◌∙◌}
use Rattle.std.proofs.lemmas.Cmp.{nat_list_cmp_total}
use Rattle.std.specs.Ordering.{match_ordering, ordering_reverse}
use Rattle.std.specs.Cmp.Lexicographic.{slice_cmp}
use Rattle.serde_json.specs.Data.{Data, Members, no_members, member, put}
use Rattle.oauth2_json.specs.Members.{put_some}
use Rattle.oauth2_json.specs.Puts.{Row, put_all, is_before, in_order}

both : (a b : Bool) → a && b ≡ true → (a ≡ true) × (b ≡ true)
both true b h = (refl, h)
both false b h = (h, cc)

-- the names that follow k still do
before_at : (o : Ordering) (k l m : List ℕ) (d e : Data) (ms : Members) → slice_cmp nat_cmp k l ≡ Less → is_before k (member m e ms) ≡ true
    → is_before k (match_ordering o (member l d (member m e ms)) (member m d ms) (member m e (put l d ms))) ≡ true
before_at Less k l m d e ms is h = rw is refl
before_at Equal k l m d e ms is h = h
before_at Greater k l m d e ms is h = h

before_put : (k l : List ℕ) (d : Data) (ms : Members) → slice_cmp nat_cmp k l ≡ Less → is_before k ms ≡ true → is_before k (put l d ms) ≡ true
before_put k l d no_members is h = rw is refl
before_put k l d (member m e ms) is h = before_at (slice_cmp nat_cmp l m) k l m d e ms is h

order_at : (o : Ordering) (k l : List ℕ) (d e : Data) (ms : Members) → slice_cmp nat_cmp k l ≡ o → is_before l ms && in_order ms ≡ true → in_order (put k d ms) ≡ true
    → in_order (match_ordering o (member k d (member l e ms)) (member l d ms) (member l e (put k d ms))) ≡ true
order_at Less k l d e ms is h later = rw (is, h) refl
order_at Equal k l d e ms is h later = h
order_at Greater k l d e ms is h later =
    let back : slice_cmp nat_cmp l k ≡ Less = nat_list_cmp_total.antisymm l k ∙ ap ordering_reverse is in
    rw (before_put l k d ms back (both _ _ h).0, later) refl

pub put-order : (k : List ℕ) (d : Data) (ms : Members) → in_order ms ≡ true → in_order (put k d ms) ≡ true
put-order k d no_members h = refl
put-order k d (member l e ms) h = order_at _ k l d e ms refl h (put-order k d ms (both _ _ h).1)

some-order : (k : List ℕ) (o : Option Data) (ms : Members) → in_order ms ≡ true → in_order (put_some k o ms) ≡ true
some-order k None ms h = h
some-order k (Some d) ms h = put-order k d ms h

pub all-order : (rs : List Row) (ms : Members) → in_order ms ≡ true → in_order (put_all rs ms) ≡ true
all-order [] ms h = h
all-order (r ∷ rs) ms h = some-order r.0 r.1 (put_all rs ms) (all-order rs ms h)
