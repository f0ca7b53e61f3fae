-- The rules for a logout token are met exactly where it is as the standard says.
use Rattle.std.proofs.Common.{◌≡◌, ◌≢◌, ◌↔◌, ◌⊎◌, inl, inr, ℕ, ℤ, pos, ◌+ℤ◌, int_lt, int_le, List, [], ◌∷◌, map, Bool, true, false, true≢false, not, ◌||◌, Option, Some, None, is_some, IsSomeAnd, Ok, Err, bytes_eq, codes, refl, sym}
use Rattle.std.proofs.lemmas.Slice.Eq.{bytes_eq-Decides}
use Rattle.std.specs.Char.{to_ascii_lowercase}
use Rattle.serde_json.specs.Data.{Data}
use Rattle.serde_json.specs.Find.{get, as_str}
use Rattle.oauth2_openid.proofs.CheckLaws.{rule_held, both, tested, untested, or_left, or_right, which, absent_held, is_one, one_is, among_Contains, contained_among, all_among, among_all}
use Rattle.oauth2_openid.proofs.KindLaws.{plain_held, held_plain, encoded_held, held_encoded, started_held, held_started}
use Rattle.oauth2_openid.proofs.RuleLaws.{issuer_held, held_issuer, filled, not_empty}
use Rattle.oauth2_openid.specs.Kinds.{names_plain, IsPlainType}
use Rattle.oauth2_openid.specs.TokenRules.{tenant_of}
use Rattle.oauth2_keys.specs.Signature.{Check, by_keys, by_secret, registered_algorithm, IsSigned}
use Rattle.oauth2_openid.specs.Token.{DecodedToken}
use Rattle.oauth2_signed_tokens.specs.declared.logout_tokens.fault.LogoutTokenFault.{LogoutTokenFault}
use Rattle.oauth2_signed_tokens.specs.declared.logout_tokens.fault.LogoutTokenFault.TheVariants as fault
use Rattle.oauth2_signed_tokens.specs.declared.logout_tokens.type_rule.TypeRule.{TypeRule}
use Rattle.oauth2_signed_tokens.specs.declared.logout_tokens.type_rule.TypeRule.TheVariants.{OnlyLogout, LogoutOrPlain}
use Rattle.oauth2_signed_tokens.specs.logout_tokens.LogoutToken.{LogoutClaims, DecodedLogoutToken, as_id_token}
use Rattle.oauth2_signed_tokens.specs.logout_tokens.Rules.{Expectation, names_logout, takes_string, takes_type, is_empty_text, logout_token_checked, IsLogoutType, IsTaken, AreFilled, LogoutTokenHolds}

-- ---- the type

logout_held : (typ : List ℕ) → names_logout typ ≡ true → IsLogoutType typ
logout_held typ h =
    let x = map to_ascii_lowercase typ in
    is_one x (codes "logout+jwt") (codes "application/logout+jwt") (which (bytes_eq x (codes "logout+jwt")) (bytes_eq x (codes "application/logout+jwt")) h)

held_logout : (typ : List ℕ) → IsLogoutType typ → names_logout typ ≡ true
held_logout typ h = one_is (map to_ascii_lowercase typ) (codes "logout+jwt") (codes "application/logout+jwt") h

either_held : (typ : List ℕ) → (names_logout typ ≡ true) ⊎ (names_plain typ ≡ true) → IsLogoutType typ ⊎ IsPlainType typ
either_held typ (inl h) = inl (logout_held typ h)
either_held typ (inr h) = inr (plain_held typ h)

held_either : (typ : List ℕ) → IsLogoutType typ ⊎ IsPlainType typ → names_logout typ || names_plain typ ≡ true
held_either typ (inl h) = or_left (names_logout typ) (names_plain typ) (held_logout typ h)
held_either typ (inr h) = or_right (names_logout typ) (names_plain typ) (held_plain typ h)

-- the type as a string
abbrev Texts : TypeRule → Option (List ℕ) → Type 0
Texts OnlyLogout o = IsSomeAnd o IsLogoutType
Texts LogoutOrPlain o = IsSomeAnd o (λ s. IsLogoutType s ⊎ IsPlainType s)

text_held : (types : TypeRule) (o : Option (List ℕ)) → takes_string types o ≡ true → Texts types o
text_held OnlyLogout None h = absurd (true≢false (sym h))
text_held OnlyLogout (Some typ) h = logout_held typ h
text_held LogoutOrPlain None h = absurd (true≢false (sym h))
text_held LogoutOrPlain (Some typ) h = either_held typ (which (names_logout typ) (names_plain typ) h)

held_text : (types : TypeRule) (o : Option (List ℕ)) → Texts types o → takes_string types o ≡ true
held_text OnlyLogout None h = absurd h
held_text OnlyLogout (Some typ) h = held_logout typ h
held_text LogoutOrPlain None h = absurd h
held_text LogoutOrPlain (Some typ) h = held_either typ h

type_held : (types : TypeRule) (o : Option Data) → takes_type types o ≡ true → IsTaken types o
type_held OnlyLogout None h = absurd (true≢false (sym h))
type_held OnlyLogout (Some d) h = text_held OnlyLogout (as_str d) h
type_held LogoutOrPlain None h = tt
type_held LogoutOrPlain (Some d) h = text_held LogoutOrPlain (as_str d) h

held_type : (types : TypeRule) (o : Option Data) → IsTaken types o → takes_type types o ≡ true
held_type OnlyLogout None h = absurd h
held_type OnlyLogout (Some d) h = held_text OnlyLogout (as_str d) h
held_type LogoutOrPlain None h = refl
held_type LogoutOrPlain (Some d) h = held_text LogoutOrPlain (as_str d) h

-- ---- the user and the session

held_session : (a b : Bool) → (a ≡ true) ⊎ (b ≡ true) → a || b ≡ true
held_session a b (inl h) = or_left a b h
held_session a b (inr h) = or_right a b h

-- ---- the identifiers

text_filled : (o : Option (List ℕ)) → is_empty_text o ≡ false → o ≢ Some []
text_filled None h = λ e. absurd (cc)
text_filled (Some []) h = λ e. absurd (true≢false h)
text_filled (Some (b ∷ later)) h = λ e. absurd (cc)

filled_text : (o : Option (List ℕ)) → o ≢ Some [] → is_empty_text o ≡ false
filled_text None h = refl
filled_text (Some []) h = absurd (h refl)
filled_text (Some (b ∷ later)) h = refl

no_either : (a b : Bool) → a || b ≡ false → (a ≡ false) × (b ≡ false)
no_either true b h = absurd (true≢false h)
no_either false b h = (refl, h)

not_true : (a : Bool) → not a ≡ true → a ≡ false
not_true true h = absurd (true≢false (sym h))
not_true false h = refl

not_false : (a : Bool) → a ≡ false → not a ≡ true
not_false a h = rw h refl

none_empty : (c : LogoutClaims) → not (is_empty_text c.subject || is_empty_text c.session_id || bytes_eq c.token_id []) ≡ true → AreFilled c
none_empty c h =
    let two = no_either (is_empty_text c.subject || is_empty_text c.session_id) (bytes_eq c.token_id []) (not_true _ h) in
    let first = no_either (is_empty_text c.subject) (is_empty_text c.session_id) two.0 in
    record {
      subject = text_filled c.subject first.0;
      session_id = text_filled c.session_id first.1;
      token_id = filled c.token_id (not_false (bytes_eq c.token_id []) two.1);
    }

all_filled : (c : LogoutClaims) → AreFilled c → not (is_empty_text c.subject || is_empty_text c.session_id || bytes_eq c.token_id []) ≡ true
all_filled c h =
    rw (filled_text c.subject h.subject, filled_text c.session_id h.session_id, not_true (bytes_eq c.token_id []) (not_empty c.token_id h.token_id)) refl

-- ---- the algorithm

-- a token with a good signature has the registered algorithm
signed_by : (c : Check) (t : DecodedToken) → IsSigned c t → t.header.own.algorithm ≡ registered_algorithm c
signed_by (by_keys keys algorithm) t h = h.algorithm_is
signed_by (by_secret secret algorithm) t h = h.algorithm_is

-- ---- all

rules_held : (w : Expectation) (k : Check) (n : ℤ) (t : DecodedLogoutToken) → logout_token_checked w k n t ≡ Ok tt → IsSigned k (as_id_token t) → LogoutTokenHolds w k n t
rules_held w k n t h verified =
    let header = both _ _ _ h in
    let later = both _ _ _ header.1 in
    let y = both _ _ _ header.0 in
    let a = both _ _ _ y.1 in
    let b = both _ _ _ a.1 in
    let i = both _ _ _ later.0 in
    let u = both _ _ _ i.1 in
    let r = both _ _ _ u.1 in
    let e = both _ _ _ r.1 in
    let g = both _ _ _ e.1 in
    let s = both _ _ _ later.1 in
    let f = both _ _ _ s.1 in
    let v = both _ _ _ f.1 in
    let end : ℤ = t.claims.own.expires_at +ℤ pos w.leeway in
    let latest : ℤ = n +ℤ pos w.leeway in
    record {
      token_type = type_held w.type_rule (get (codes "typ") t.header.others) (rule_held _ _ y.0);
      no_extension = absent_held (get (codes "crit") t.header.others) (rule_held _ _ b.0);
      encoded = encoded_held (get (codes "b64") t.header.others) (rule_held _ _ b.1);
      issuer = issuer_held w.issuer (tenant_of t.claims.others) t.claims.own.issuer (rule_held _ _ i.0);
      audience = among_Contains w.client t.claims.own.audience (rule_held _ _ u.0);
      trusted = all_among (w.client ∷ w.other_audiences) t.claims.own.audience (rule_held _ _ r.0);
      not_expired = record { lt = tested (int_lt n end) (rule_held (int_lt n end) fault.Expired e.0) };
      issued = record { le = tested (int_le t.claims.own.issued_at latest) (rule_held (int_le t.claims.own.issued_at latest) fault.IssuedLater g.0) };
      started = started_held latest (get (codes "nbf") t.claims.others) (rule_held _ _ g.1);
      session = which (is_some t.claims.own.subject) (is_some t.claims.own.session_id) (rule_held _ _ s.0);
      identifiers = none_empty t.claims.own (rule_held _ _ f.0);
      event = rule_held _ _ v.0;
      no_nonce = absent_held (get (codes "nonce") t.claims.others) (rule_held _ _ v.1);
      signature = verified;
    }

held_rules : (w : Expectation) (k : Check) (n : ℤ) (t : DecodedLogoutToken) → LogoutTokenHolds w k n t → logout_token_checked w k n t ≡ Ok tt
held_rules w k n t h =
    rw (
      held_type w.type_rule (get (codes "typ") t.header.others) h.token_type,
      (bytes_eq-Decides t.header.own.algorithm (registered_algorithm k)).1 (signed_by k (as_id_token t) h.signature),
      h.no_extension,
      held_encoded (get (codes "b64") t.header.others) h.encoded,
      held_issuer w.issuer (tenant_of t.claims.others) t.claims.own.issuer h.issuer,
      contained_among w.client t.claims.own.audience h.audience,
      among_all (w.client ∷ w.other_audiences) t.claims.own.audience h.trusted,
      untested (int_lt n (t.claims.own.expires_at +ℤ pos w.leeway)) h.not_expired.lt,
      untested (int_le t.claims.own.issued_at (n +ℤ pos w.leeway)) h.issued.le,
      held_started (n +ℤ pos w.leeway) (get (codes "nbf") t.claims.others) h.started,
      held_session (is_some t.claims.own.subject) (is_some t.claims.own.session_id) h.session,
      all_filled t.claims.own h.identifiers,
      h.event,
      h.no_nonce,
    ) refl

-- where the other rules hold, the signature decides
pub decided : (P : Type 0) (w : Expectation) (k : Check) (n : ℤ) (t : DecodedLogoutToken) → Ok tt ≡ logout_token_checked w k n t → P ↔ IsSigned k (as_id_token t) → P ↔ LogoutTokenHolds w k n t
decided P w k n t e v = (λ p. rules_held w k n t (sym e) (v.0 p), λ h. v.1 h.signature)

-- where one does not, the token is not as the standard says
pub broken : (w : Expectation) (k : Check) (n : ℤ) (t : DecodedLogoutToken) (f : LogoutTokenFault) → Err f ≡ logout_token_checked w k n t → LogoutTokenHolds w k n t → ⊥
broken w k n t f e h = let ok : logout_token_checked w k n t ≡ Ok tt = held_rules w k n t h in absurd (cc)
