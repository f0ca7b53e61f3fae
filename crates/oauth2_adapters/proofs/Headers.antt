-- A reply whose Content-Type is set, and bytes that are ASCII.
use Rattle.std.proofs.Common.{◌≡◌, ℕ, zero, suc, ◌<◌, List, [], ◌∷◌, Bool, true, false, ◌&&◌, refl, arith}
use Rattle.std.specs.Prelude.{Result, Ok, Err, OnOk, IsOk, codes, slice_index, if◌then◌else◌}
use Rattle.std.specs.Bool.{OnTrue}
use Rattle.std.specs.List.{list_all}
use Rattle.std.proofs.lemmas.Bool.{ltb-true}
use Rattle.http_header.specs.HeaderMap.{get}
use Rattle.oauth2_adapters.specs.CommasInScopes.{is_ascii}
use Rattle.oauth2_adapters.specs.OtherMediaTypes.{has_type_of, with_json_type, as_json}
use Rattle.oauth2_adapters.specs.Reply.{Reply}

pub at_ok : {A E P : Type 0} (r : Result A E) → OnOk r P → IsOk r → P
at_ok (Ok a) p ok = p
at_ok (Err e) p ok = absurd (cc)

chosen : (b : Bool) (x y : Reply) → b ≡ true → (if b then x else y) ≡ x
chosen true x y e = refl
chosen false x y e = absurd (cc)

pub as_json-listed : (types : List (List ℕ)) (reply : Reply) → has_type_of types (get reply.headers (codes "content-type")) ≡ true → as_json types reply ≡ record reply { headers = with_json_type reply.headers }
as_json-listed types reply e = chosen _ _ reply e

-- ---- ASCII

both : (a b : Bool) → a && b ≡ true → (a ≡ true) × (b ≡ true)
both true b e = (refl, e)
both false b e = absurd (cc)

pub all_ascii : (bs : List ℕ) → list_all is_ascii bs ≡ true → (i : ℕ) → slice_index bs i < 128
all_ascii [] e i = omega arith
all_ascii (b ∷ bs) e zero = ltb-true b 128 (both (is_ascii b) (list_all is_ascii bs) e).0
all_ascii (b ∷ bs) e (suc i) = all_ascii bs (both (is_ascii b) (list_all is_ascii bs) e).1 i

pub on_true : {P : Type 0} (b : Bool) → P → OnTrue b P
on_true true p = p
on_true false p = tt
