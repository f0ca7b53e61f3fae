-- Names of which none occurs twice.
use Rattle.std.proofs.Common.{◌≡◌, ℕ, List, [], ◌∷◌, ◌++◌, Bool, true, false, not, ◌&&◌, ◌||◌, bytes_eq, refl, sym, ap, ◌∙◌}
use Rattle.std.proofs.lemmas.Slice.Eq.{bytes_eq-Decides}
use Rattle.serde_json.specs.Data.{Members}
use Rattle.serde_json.specs.Find.{get_member}
use Rattle.oauth2_json.specs.Members.{without, others, put_some}
use Rattle.oauth2_json.specs.Puts.{Row, put_all}
use Rattle.oauth2_json.proofs.Objects.{get_member-without}
use Rattle.oauth2_body_members.specs.Object.{has_name}
use Rattle.oauth2_member_rows.specs.Rows.{misses, are_distinct, Agree}

both : (a b : Bool) → a && b ≡ true → (a ≡ true) × (b ≡ true)
both true b h = (refl, h)
both false b h = (h, cc)

joined : (a b : Bool) → a ≡ true → b ≡ true → a && b ≡ true
joined a b h g = cc

turned : (b : Bool) → not b ≡ true → b ≡ false
turned true h = sym h
turned false h = refl

misses_parts : (q : List ℕ) (xs ys : List (List ℕ)) → misses q (xs ++ ys) ≡ true → (misses q xs ≡ true) × (misses q ys ≡ true)
misses_parts q [] ys h = (refl, h)
misses_parts q (x ∷ xs) ys h =
    let w = both (not (bytes_eq q x)) (misses q (xs ++ ys)) h in
    let p = misses_parts q xs ys w.1 in
    (joined (not (bytes_eq q x)) (misses q xs) w.0 p.0, p.1)

pub distinct_parts : (xs ys : List (List ℕ)) → are_distinct (xs ++ ys) ≡ true → (are_distinct xs ≡ true) × (are_distinct ys ≡ true)
distinct_parts [] ys h = (refl, h)
distinct_parts (x ∷ xs) ys h =
    let w = both (misses x (xs ++ ys)) (are_distinct (xs ++ ys)) h in
    let p = distinct_parts xs ys w.1 in
    (joined (misses x xs) (are_distinct xs) (misses_parts x xs ys w.0).0 p.0, p.1)

-- ---- members that are left

flipped_at : (b : Bool) (q k : List ℕ) → bytes_eq q k ≡ b → bytes_eq k q ≡ false → b ≡ false
flipped_at true q k is h = sym ((bytes_eq-Decides k q).1 (sym ((bytes_eq-Decides q k).0 is))) ∙ h
flipped_at false q k is h = refl

without_agrees : (x : List ℕ) (ys : List (List ℕ)) (ms : Members) → misses x ys ≡ true → Agree ys (without x ms) ms
without_agrees x [] ms h = tt
without_agrees x (y ∷ ys) ms h =
    let w = both (not (bytes_eq x y)) (misses x ys) h in
    (get_member-without y x ms (flipped_at (bytes_eq y x) y x refl (turned (bytes_eq x y) w.0)), without_agrees x ys ms w.1)

through : (ks : List (List ℕ)) (a b c : Members) → Agree ks a b → Agree ks b c → Agree ks a c
through [] a b c h g = tt
through (k ∷ ks) a b c h g = (h.0 ∙ g.0, through ks a b c h.1 g.1)

pub same : (ks : List (List ℕ)) (a : Members) → Agree ks a a
same [] a = tt
same (k ∷ ks) a = (refl, same ks a)

-- what is taken out under the names `xs` changes nothing under `ys`
pub left_agrees : (xs ys : List (List ℕ)) (ms : Members) → are_distinct (xs ++ ys) ≡ true → Agree ys (others xs ms) ms
left_agrees [] ys ms h = same ys ms
left_agrees (x ∷ xs) ys ms h =
    let w = both (misses x (xs ++ ys)) (are_distinct (xs ++ ys)) h in
    through ys (others xs (without x ms)) (without x ms) ms (left_agrees xs ys (without x ms) w.1) (without_agrees x ys ms (misses_parts x xs ys w.0).1)

pub others-append : (xs ys : List (List ℕ)) (ms : Members) → others (xs ++ ys) ms ≡ others ys (others xs ms)
others-append [] ys ms = refl
others-append (x ∷ xs) ys ms = others-append xs ys (without x ms)

pub put_all-append : (rs more : List Row) (ms : Members) → put_all (rs ++ more) ms ≡ put_all rs (put_all more ms)
put_all-append [] more ms = refl
put_all-append (r ∷ rs) more ms = ap (put_some r.0 r.1) (put_all-append rs more ms)

-- ---- members that are kept

same_name : (k : List ℕ) → bytes_eq k k ≡ true
same_name k = (bytes_eq-Decides k k).1 refl

later : (b c : Bool) → c ≡ true → b || c ≡ true
later true c h = refl
later false c h = h

pub kept_agree : (ks : List (List ℕ)) (kept all : Members) → ((q : List ℕ) → has_name q ks ≡ true → get_member q kept ≡ get_member q all) → Agree ks kept all
kept_agree [] kept all own = tt
kept_agree (k ∷ ks) kept all own = (
  own k (ap (λ b. b || has_name k ks) (same_name k)),
  kept_agree ks kept all (λ q there. own q (later (bytes_eq k q) (has_name q ks) there)),
)
