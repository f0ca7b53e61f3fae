-- The rules for a JWT access token are met exactly where it is as the standard says.
use Rattle.std.proofs.Common.{◌≡◌, ◌↔◌, ℕ, ℤ, pos, ◌+ℤ◌, ◌≤ℤ◌, int_lt, int_le, List, map, true, true≢false, not, Option, Some, None, is_some, IfSome, IsSomeAnd, Ok, Err, bytes_eq, codes, refl, sym}
use Rattle.std.proofs.lemmas.Slice.Eq.{bytes_eq-Decides}
use Rattle.std.specs.Char.{to_ascii_lowercase}
use Rattle.serde_json.specs.Data.{Data}
use Rattle.serde_json.specs.Find.{get}
use Rattle.oauth2_openid.proofs.CheckLaws.{rule_held, both, tested, untested, which, absent_held, is_one, one_is, among_Contains, contained_among}
use Rattle.oauth2_openid.proofs.KindLaws.{encoded_held, held_encoded}
use Rattle.oauth2_keys.specs.declared.json_web_key.ListedKey.{ListedKey}
use Rattle.oauth2_keys.specs.Algorithm.{algorithm_name}
use Rattle.oauth2_keys.specs.Verified.{IsVerified}
use Rattle.oauth2_signed_tokens.specs.declared.access_tokens.expected.SenderConstraint.{SenderConstraint}
use Rattle.oauth2_signed_tokens.specs.declared.access_tokens.expected.SenderConstraint.TheVariants.{NoKeyProven}
use Rattle.oauth2_signed_tokens.specs.declared.access_tokens.fault.AccessTokenFault.{AccessTokenFault}
use Rattle.oauth2_signed_tokens.specs.declared.access_tokens.fault.AccessTokenFault.TheVariants as fault
use Rattle.oauth2_signed_tokens.specs.access_tokens.AccessToken.{AccessToken}
use Rattle.oauth2_signed_tokens.specs.access_tokens.Rules.{Expectation, names_access_token, type_of, start_of, suffices, access_token_checked, IsAccessTokenType, Suffices, AccessTokenHolds}

-- ---- the type

type_held : (o : Option (List ℕ)) → names_access_token o ≡ true → IsSomeAnd o IsAccessTokenType
type_held None h = absurd (true≢false (sym h))
type_held (Some typ) h =
    let x = map to_ascii_lowercase typ in
    is_one x (codes "at+jwt") (codes "application/at+jwt") (which (bytes_eq x (codes "at+jwt")) (bytes_eq x (codes "application/at+jwt")) h)

held_type : (o : Option (List ℕ)) → IsSomeAnd o IsAccessTokenType → names_access_token o ≡ true
held_type None h = absurd h
held_type (Some typ) h = one_is (map to_ascii_lowercase typ) (codes "at+jwt") (codes "application/at+jwt") h

-- ---- from when on it counts

start_held : (l : ℕ) (n : ℤ) (o : Option ℤ) → start_of l n o ≡ Ok tt → IfSome o (λ start. start ≤ℤ (n +ℤ pos l))
start_held l n None h = tt
start_held l n (Some start) h = record { le = tested (int_le start (n +ℤ pos l)) (rule_held _ _ h) }

held_start : (l : ℕ) (n : ℤ) (o : Option ℤ) → IfSome o (λ start. start ≤ℤ (n +ℤ pos l)) → start_of l n o ≡ Ok tt
held_start l n None h = refl
held_start l n (Some start) h = rw (untested (int_le start (n +ℤ pos l)) h.le) refl

-- ---- the key that it is bound to

sender_held : (s : SenderConstraint) (o : Option Data) → suffices s (is_some o) ≡ true → Suffices s o
sender_held NoKeyProven o h = absent_held o h

held_sender : (s : SenderConstraint) (o : Option Data) → Suffices s o → suffices s (is_some o) ≡ true
held_sender NoKeyProven o h = rw h refl

-- ---- all

rules_held : (w : Expectation) (k : List ListedKey) (n : ℤ) (t : AccessToken) → access_token_checked w n t ≡ Ok tt → IsVerified k w.algorithm t.token → AccessTokenHolds w k n t
rules_held w k n t h verified =
    let y = both _ _ _ h in
    let a = both _ _ _ y.1 in
    let x = both _ _ _ a.1 in
    let b = both _ _ _ x.1 in
    let i = both _ _ _ b.1 in
    let u = both _ _ _ i.1 in
    let e = both _ _ _ u.1 in
    let s = both _ _ _ e.1 in
    let end : ℤ = t.token.claims.own.expires_at +ℤ pos w.leeway in
    record {
      token_type = type_held (type_of t.token) (rule_held _ _ y.0);
      no_extension = absent_held (get (codes "crit") t.token.header.others) (rule_held _ _ x.0);
      encoded = encoded_held (get (codes "b64") t.token.header.others) (rule_held _ _ b.0);
      issuer = (bytes_eq-Decides t.token.claims.own.issuer w.issuer).0 (rule_held _ _ i.0);
      audience = among_Contains w.audience t.token.claims.own.audience (rule_held _ _ u.0);
      not_expired = record { lt = tested (int_lt n end) (rule_held (int_lt n end) fault.Expired e.0) };
      started = start_held w.leeway n t.own.not_before s.0;
      sender = sender_held w.constraint (get (codes "cnf") t.token.claims.others) (rule_held _ _ s.1);
      signature = verified;
    }

held_rules : (w : Expectation) (k : List ListedKey) (n : ℤ) (t : AccessToken) → AccessTokenHolds w k n t → access_token_checked w n t ≡ Ok tt
held_rules w k n t h =
    rw (
      held_type (type_of t.token) h.token_type,
      (bytes_eq-Decides t.token.header.own.algorithm (algorithm_name w.algorithm)).1 h.signature.algorithm_is,
      h.no_extension,
      held_encoded (get (codes "b64") t.token.header.others) h.encoded,
      (bytes_eq-Decides t.token.claims.own.issuer w.issuer).1 h.issuer,
      contained_among w.audience t.token.claims.own.audience h.audience,
      untested (int_lt n (t.token.claims.own.expires_at +ℤ pos w.leeway)) h.not_expired.lt,
      held_start w.leeway n t.own.not_before h.started,
      held_sender w.constraint (get (codes "cnf") t.token.claims.others) h.sender,
    ) refl

-- where the other rules hold, the signature decides
pub decided : (P : Type 0) (w : Expectation) (k : List ListedKey) (n : ℤ) (t : AccessToken) → Ok tt ≡ access_token_checked w n t → P ↔ IsVerified k w.algorithm t.token → P ↔ AccessTokenHolds w k n t
decided P w k n t e v = (λ p. rules_held w k n t (sym e) (v.0 p), λ h. v.1 h.signature)

-- where one does not, the token is not as the standard says
pub broken : (w : Expectation) (k : List ListedKey) (n : ℤ) (t : AccessToken) (f : AccessTokenFault) → Err f ≡ access_token_checked w n t → AccessTokenHolds w k n t → ⊥
broken w k n t f e h = let ok : access_token_checked w n t ≡ Ok tt = held_rules w k n t h in absurd (cc)
