-- A token response reads back.
use Rattle.std.proofs.Common.{◌≡◌, Some, Ok, codes, refl}
use Rattle.serde_json.specs.Data.{Data, string}
use Rattle.oauth2_json.specs.Members.{needed_member}
use Rattle.oauth2_json.specs.Reading.{Reading}
use Rattle.oauth2_json.specs.Values.{lowercase_reading}
use Rattle.oauth2_json.specs.Writing.{Writing}
use Rattle.oauth2_json.proofs.Objects.{optional-text, optional-number}
use Rattle.oauth2_json.proofs.Optionals.{optional-words}
use Rattle.oauth2_member_rows.specs.Objects.{writing_with}
use Rattle.oauth2_member_rows.proofs.Tables.{with_read_back}
use Rattle.oauth2_replies.specs.Token.{Token, token, token_seen, token_table, token_names, token_rows, token_reading, token_writing, IsTokenKept}

pub token_back : {E T F M : Type 0} (er : Data → Reading F) (em : E → F) (ew : E → Writing) (tr : Data → Reading M) (tm : T → M) (tw : T → Writing) (r : Token E T) (d : Data)
    → token_writing ew tw r ≡ Ok d → IsTokenKept er em ew tr tm tw r → token_reading er tr d ≡ Ok (token_seen em tm r)
token_back {F = F} {M = M} er em ew tr tm tw r d h k =
    let t = k.token_type in
    let x = k.extra_fields in
    let type_read : needed_member (lowercase_reading tr) (codes "token_type") (Some (string t.type_text)) ≡ Ok (tm r.token_type) = rw (t.lowered, t.back) refl in
    let written : writing_with token_names (token_rows (string t.type_text) r) (ew r.extra_fields) ≡ Ok d = rw t.written at h in
    with_read_back (token_table tr) (token_seen (λ _. tt) (λ _. string t.type_text) r) (r.access_token, (tm r.token_type, (r.expires_in, (r.refresh_token, (r.scopes, tt))))) refl
    (refl, (type_read, (optional-number _ r.expires_in, (optional-text _ r.refresh_token, (optional-words _ r.scopes k.scopes, tt)))))
    refl (ew r.extra_fields) x.members d x.written written (Token F M) token er (em r.extra_fields) x.back
