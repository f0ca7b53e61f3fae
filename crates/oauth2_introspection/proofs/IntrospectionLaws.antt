-- An introspection response reads back.
use Rattle.std.proofs.Common.{◌≡◌, ℕ, ℤ, List, true, Option, Some, None, IfSome, option_map, Ok, refl}
use Rattle.jiff_core.specs.declared.timestamp.Timestamp.{Timestamp}
use Rattle.serde_json.specs.Data.{Data, string}
use Rattle.oauth2_json.specs.Reading.{Reading}
use Rattle.oauth2_json.specs.Writing.{Writing}
use Rattle.oauth2_json.specs.Members.{present_member, optional_writing}
use Rattle.oauth2_json.specs.Values.{lowercase_reading}
use Rattle.oauth2_json.proofs.Objects.{optional-text}
use Rattle.oauth2_json.proofs.Lists.{optional-texts}
use Rattle.oauth2_json.proofs.Optionals.{optional-words}
use Rattle.oauth2_times.specs.Instants.{is_instant}
use Rattle.oauth2_times.proofs.Seconds.{within, optional-instant}
use Rattle.oauth2_member_rows.specs.Objects.{writing_with}
use Rattle.oauth2_member_rows.proofs.Tables.{with_read_back}
use Rattle.oauth2_replies.specs.Kept.{IsTypeKept}
use Rattle.oauth2_introspection.specs.Introspection.{Introspection, introspection, introspection_seen, introspection_written, introspection_table, introspection_names, introspection_rows, introspection_reading, introspection_writing, IsIntrospectionKept}

-- a token type that may be absent, written and read
type_back : {T M : Type 0} (tr : Data → Reading M) (tm : T → M) (tw : T → Writing) (o : Option T) → IfSome o (IsTypeKept tr tm tw)
    → (v : Option Data) × (optional_writing tw o ≡ Ok v) × ((name : List ℕ) → present_member (lowercase_reading tr) name v ≡ Ok (option_map tm o))
type_back tr tm tw None k = (None, refl, λ name. refl)
type_back tr tm tw (Some t) k = (Some (string k.type_text), (rw k.written refl), λ name. rw (k.lowered, k.back) refl)

-- the time, in nanoseconds, is absent or in the range of `Timestamp`
abbrev pub InRange : Option ℤ → Type 0
InRange o = IfSome o (λ n. is_instant n ≡ true)

pub in_range : (o : Option Timestamp) → InRange (option_map (λ t. t.nanosecond) o)
in_range None = tt
in_range (Some t) = within t.nanosecond t.in_range

-- each time of the response is absent or in that range
abbrev pub AreInRange : {E T : Type 0} → Introspection E T → Type 0
AreInRange r = InRange r.exp × InRange r.iat × InRange r.nbf

pub introspection_back : {E T F M : Type 0} (er : Data → Reading F) (em : E → F) (ew : E → Writing) (tr : Data → Reading M) (tm : T → M) (tw : T → Writing) (r : Introspection E T) → AreInRange r → (d : Data)
    → introspection_writing ew tw r ≡ Ok d → IsIntrospectionKept er em ew tr tm tw r → introspection_reading er tr d ≡ Ok (introspection_seen em tm r)
introspection_back {F = F} {M = M} er em ew tr tm tw r times d h k =
    let t = type_back tr tm tw r.token_type k.token_type in
    let x = k.extra_fields in
    let written : writing_with introspection_names (introspection_rows t.0 r) (ew r.extra_fields) ≡ Ok d = rw t.1 at h in
    with_read_back (introspection_table tr) (introspection_written t.0 r)
    (r.active, (r.scopes, (r.client_id, (r.username, (option_map tm r.token_type, (r.exp, (r.iat, (r.nbf, (r.sub, (r.aud, (r.iss, (r.jti, tt)))))))))))) refl (
      refl,
      (
        optional-words _ r.scopes k.scopes,
        (
          optional-text _ r.client_id,
          (
            optional-text _ r.username,
            (
              t.2 _,
              (
                optional-instant _ r.exp times.0 k.exp,
                (
                  optional-instant _ r.iat times.1 k.iat,
                  (
                    optional-instant _ r.nbf times.2 k.nbf,
                    (optional-text _ r.sub, (optional-texts _ r.aud, (optional-text _ r.iss, (optional-text _ r.jti, tt)))),
                  ),
                ),
              ),
            ),
          ),
        ),
      ),
    )
    refl (ew r.extra_fields) x.members d x.written written (Introspection F M) introspection er (em r.extra_fields) x.back
