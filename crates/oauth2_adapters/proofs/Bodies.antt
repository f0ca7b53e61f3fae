-- A body that is no UTF-8.
use Rattle.std.proofs.Common.{◌≡◌, ℕ, List, Bool, true, false, cond, None, Option, IsUtf8, refl}
use Rattle.std.specs.Str.{is_utf8}
use Rattle.std.proofs.lemmas.Str.{IsUtf8-from_is_utf8}
use Rattle.oauth2_adapters.specs.Objects.{object_in, object_of}

no_text : {A : Type 0} (b : Bool) (body : List ℕ) (o : Option A) → is_utf8 body ≡ b → (IsUtf8 body → ⊥) → cond b o None ≡ None
no_text true body o e never = absurd (never (IsUtf8-from_is_utf8 body e))
no_text false body o e never = refl

-- it is no object
pub object_of-not_utf8 : (body : List ℕ) → (IsUtf8 body → ⊥) → object_of body ≡ None
object_of-not_utf8 body never = no_text (is_utf8 body) body (object_in body) refl never
