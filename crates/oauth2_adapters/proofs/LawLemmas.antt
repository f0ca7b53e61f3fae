-- What holds of adapters together.
use Rattle.std.proofs.Common.{◌≡◌, ℕ, List, Bool, true, false, Option, Some, None, refl, sym, ap, ◌∙◌}
use Rattle.std.specs.Prelude.{is_some, codes, if◌then◌else◌}
use Rattle.http_header.specs.FieldValue.{FieldValue}
use Rattle.http_header.specs.HeaderMap.{Entries, get}
use Rattle.oauth2_adapters.specs.ErrorsAtStatus200.{error_at_400}
use Rattle.oauth2_adapters.specs.FormBodies.{form_as_json, is_form}
use Rattle.oauth2_adapters.specs.Objects.{object_of}
use Rattle.oauth2_adapters.specs.OtherMediaTypes.{has_type_of, with_json_type, as_json}
use Rattle.oauth2_adapters.specs.Reply.{Reply}
use Rattle.oauth2_adapters.specs.Rewriting.{Change, new_body, with_body, with_changes}
use Rattle.oauth2_adapters.specs.Laws.{LeavesAlone, Commute, CommuteIfOneIsFor, is_error_at_200, has_changes, has_listed_type}

untouched : (b : Bool) (x y : Reply) → b ≡ false → (if b then x else y) ≡ y
untouched true x y e = absurd (cc)
untouched false x y e = refl

pub errors_alone : LeavesAlone error_at_400 is_error_at_200
errors_alone reply e = untouched (is_error_at_200 reply) _ reply e

pub types_alone : (types : List (List ℕ)) → LeavesAlone (as_json types) (has_listed_type types)
types_alone types reply e = untouched (has_listed_type types reply) _ reply e

pub forms_alone : LeavesAlone form_as_json is_form
forms_alone reply e = untouched (is_form reply) _ reply e

same_body : (o : Option (List ℕ)) (reply : Reply) → is_some o ≡ false → with_body o reply ≡ reply
same_body None reply e = refl
same_body (Some b) reply e = absurd (cc)

pub changes_alone : (change : Change) → LeavesAlone (with_changes change) (has_changes change)
changes_alone change reply e = same_body (new_body change (object_of reply.body)) reply e

pub one_is_for : (first second : Reply → Reply) (is_for : Reply → Bool) → LeavesAlone second is_for → CommuteIfOneIsFor first second is_for
one_is_for first second is_for alone reply before after = ap first (alone reply before) ∙ sym (alone (first reply) after)

-- ---- an adapter that neither reads nor changes the headers

abbrev typed : Bool → Entries FieldValue → Reply → Reply
typed b headers reply = if b then record reply { headers = headers } else reply

module _ (types : List (List ℕ)) (g : Reply → Reply) (same : (r : Reply) → (g r).headers ≡ r.headers) (out : (r : Reply) (h : Entries FieldValue) → g (record r { headers = h }) ≡ record (g r) { headers = h }) where
  typed_after : (b : Bool) (h : Entries FieldValue) (r : Reply) → typed b h (g r) ≡ g (typed b h r)
  typed_after true h r = sym (out r h)
  typed_after false h r = refl

  types_commute : Commute (as_json types) g
  types_commute r =
      ap (λ hs. typed (has_type_of types (get hs (codes "content-type"))) (with_json_type hs) (g r)) (same r)
      ∙ typed_after (has_type_of types (get r.headers (codes "content-type"))) (with_json_type r.headers) r

same_headers : (b : Bool) (r : Reply) → (if b then record r { status = 400 } else r).headers ≡ r.headers
same_headers true r = refl
same_headers false r = refl

headers_out : (b : Bool) (r : Reply) (h : Entries FieldValue) → (if b then record r { headers = h; status = 400 } else record r { headers = h }) ≡ record (if b then record r { status = 400 } else r) { headers = h }
headers_out true r h = refl
headers_out false r h = refl

pub types_and_errors : (types : List (List ℕ)) → Commute (as_json types) error_at_400
types_and_errors types = types_commute types error_at_400 (λ r. same_headers (is_error_at_200 r) r) (λ r h. headers_out (is_error_at_200 r) r h)

body_same_headers : (o : Option (List ℕ)) (r : Reply) → (with_body o r).headers ≡ r.headers
body_same_headers None r = refl
body_same_headers (Some b) r = refl

body_headers_out : (o : Option (List ℕ)) (r : Reply) (h : Entries FieldValue) → with_body o (record r { headers = h }) ≡ record (with_body o r) { headers = h }
body_headers_out None r h = refl
body_headers_out (Some b) r h = refl

pub types_and_changes : (types : List (List ℕ)) (change : Change) → Commute (as_json types) (with_changes change)
types_and_changes types change =
    types_commute types (with_changes change) (λ r. body_same_headers (new_body change (object_of r.body)) r) (λ r h. body_headers_out (new_body change (object_of r.body)) r h)
