-- The rules for the claims are met exactly where the claims are as the standard says.
use Rattle.std.proofs.Common.{◌≡◌, ◌≢◌, ℕ, ℤ, pos, ◌+ℤ◌, ◌<◌, int_lt, int_le, nat_le, List, [], ◌∷◌, ◌++◌, length, Contains, Bool, true, false, true≢false, not, bytes_eq, Option, Some, None, option_map, IfSome, IsSome, IsSomeAnd, Ok, refl, sym, ap, arith}
use borrow.Author.Tests.{leb-true, leb-false}
use Rattle.std.proofs.lemmas.Slice.Eq.{bytes_eq-Decides}
use Rattle.sha2.specs.Sha256.{sha256}
use Rattle.oauth2_openid.specs.declared.claims_error.ClaimsError.TheVariants as errors
use Rattle.oauth2_openid.specs.Claims.{Claims, Expectation, NamedIssuers, is, one_of, per_tenant}
use Rattle.oauth2_openid.proofs.CheckLaws.{rule_held, both, tested, untested, among_Contains, contained_among, all_among, among_all}
use Rattle.oauth2_openid.specs.Rules.{is_issuer, party_of, nonce_of, age_of, claims_checked, IsIssuer, IsOfAge, ClaimsHold}

-- ---- the issuer

pub issuer_held : (named : NamedIssuers) (tenant : Option (List ℕ)) (i : List ℕ) → is_issuer named tenant i ≡ true → IsIssuer named tenant i
issuer_held (is named) tenant i h = (bytes_eq-Decides i named).0 h
issuer_held (one_of named) tenant i h = among_Contains i named h
issuer_held (per_tenant before after) None i h = absurd (true≢false (sym h))
issuer_held (per_tenant before after) (Some t) i h = (bytes_eq-Decides i (before ++ t ++ after)).0 h

pub held_issuer : (named : NamedIssuers) (tenant : Option (List ℕ)) (i : List ℕ) → IsIssuer named tenant i → is_issuer named tenant i ≡ true
held_issuer (is named) tenant i h = (bytes_eq-Decides i named).1 h
held_issuer (one_of named) tenant i h = contained_among i named h
held_issuer (per_tenant before after) None i h = absurd h
held_issuer (per_tenant before after) (Some t) i h = (bytes_eq-Decides i (before ++ t ++ after)).1 h

-- ---- the subject

pub filled : (s : List ℕ) → not (bytes_eq s []) ≡ true → s ≢ []
filled [] h = λ e. absurd (true≢false (sym h))
filled (b ∷ later) h = λ e. absurd (cc)

pub not_empty : (s : List ℕ) → s ≢ [] → not (bytes_eq s []) ≡ true
not_empty [] h = absurd (h refl)
not_empty (b ∷ later) h = refl

-- ---- the authorized party

party_held : (parties list : List (List ℕ)) (o : Option (List ℕ)) → party_of parties list o ≡ Ok tt → IfSome o (Contains parties) × (1 < length list → IsSome o)
party_held parties list None h = (tt, λ several. absurd (omega (arith, several, leb-true (length list) 1 (rule_held _ _ h))))
party_held parties list (Some p) h = (among_Contains p parties (rule_held _ _ h), λ several. refl)

few : (n : ℕ) (b : Bool) → nat_le n 1 ≡ b → (1 < n → false ≡ true) → b ≡ true
few n true e h = refl
few n false e h = absurd (true≢false (sym (h (omega (arith, leb-false n 1 e)))))

held_party : (parties list : List (List ℕ)) (o : Option (List ℕ)) → IfSome o (Contains parties) → (1 < length list → IsSome o) → party_of parties list o ≡ Ok tt
held_party parties list None same several = rw (few (length list) (nat_le (length list) 1) refl several) refl
held_party parties list (Some p) same several = rw (contained_among p parties same) refl

-- ---- the nonce

nonce_held : (sent told : Option (List ℕ)) → nonce_of sent told ≡ Ok tt → option_map sha256 told ≡ option_map sha256 sent
nonce_held None None h = refl
nonce_held None (Some t) h = absurd (cc)
nonce_held (Some s) None h = absurd (cc)
nonce_held (Some s) (Some t) h = ap Some ((bytes_eq-Decides (sha256 t) (sha256 s)).0 (rule_held _ _ h))

held_nonce : (sent told : Option (List ℕ)) → option_map sha256 told ≡ option_map sha256 sent → nonce_of sent told ≡ Ok tt
held_nonce None None h = refl
held_nonce None (Some t) h = absurd (cc)
held_nonce (Some s) None h = absurd (cc)
held_nonce (Some s) (Some t) h = let same : sha256 t ≡ sha256 s = cc in rw ((bytes_eq-Decides (sha256 t) (sha256 s)).1 same) refl

-- ---- the age

age_held : (l : ℕ) (n : ℤ) (m : Option ℕ) (o : Option ℤ) → age_of l n m o ≡ Ok tt → IfSome m (λ age. IsSomeAnd o (IsOfAge l n age))
age_held l n None o h = tt
age_held l n (Some m) None h = absurd (cc)
age_held l n (Some m) (Some t) h =
    let two = both _ _ _ h in
    record {
      not_later = record { le = tested (int_le t (n +ℤ pos l)) (rule_held (int_le t (n +ℤ pos l)) errors.AuthLater two.0) };
      not_too_old = record { le = tested (int_le n (t +ℤ pos m +ℤ pos l)) (rule_held (int_le n (t +ℤ pos m +ℤ pos l)) errors.AuthTooOld two.1) };
    }

held_age : (l : ℕ) (n : ℤ) (m : Option ℕ) (o : Option ℤ) → IfSome m (λ age. IsSomeAnd o (IsOfAge l n age)) → age_of l n m o ≡ Ok tt
held_age l n None o h = refl
held_age l n (Some m) None h = absurd h
held_age l n (Some m) (Some t) h = rw (untested (int_le t (n +ℤ pos l)) h.not_later.le, untested (int_le n (t +ℤ pos m +ℤ pos l)) h.not_too_old.le) refl

-- ---- all rules for the claims

pub claims_held : (w : Expectation) (n : ℤ) (d : Option (List ℕ)) (c : Claims) → claims_checked w n d c ≡ Ok tt → ClaimsHold w n d c
claims_held w n d c h0 =
    let i = both _ _ _ h0 in
    let s = both _ _ _ i.1 in
    let a = both _ _ _ s.1 in
    let k = both _ _ _ a.1 in
    let p = both _ _ _ k.1 in
    let e = both _ _ _ p.1 in
    let t = both _ _ _ e.1 in
    let o = both _ _ _ t.1 in
    let party = party_held (w.client ∷ w.authorized_parties) c.audience c.authorized_party p.0 in
    record {
      issuer = issuer_held w.issuer d c.issuer (rule_held _ _ i.0);
      subject = filled c.subject (rule_held _ _ s.0);
      audience = among_Contains w.client c.audience (rule_held _ _ a.0);
      trusted = all_among (w.client ∷ w.other_audiences) c.audience (rule_held _ _ k.0);
      party = party.0;
      several = party.1;
      not_expired = record { lt = tested (int_lt n (c.expires_at +ℤ pos w.leeway)) (rule_held (int_lt n (c.expires_at +ℤ pos w.leeway)) errors.Expired e.0) };
      issued = record { le = tested (int_le c.issued_at (n +ℤ pos w.leeway)) (rule_held (int_le c.issued_at (n +ℤ pos w.leeway)) errors.IssuedLater t.0) };
      nonce = nonce_held w.nonce c.nonce o.0;
      age = age_held w.leeway n w.greatest_age c.auth_time o.1;
    }

pub held_claims : (w : Expectation) (n : ℤ) (d : Option (List ℕ)) (c : Claims) → ClaimsHold w n d c → claims_checked w n d c ≡ Ok tt
held_claims w n d c h =
    rw (
      held_issuer w.issuer d c.issuer h.issuer,
      not_empty c.subject h.subject,
      contained_among w.client c.audience h.audience,
      among_all (w.client ∷ w.other_audiences) c.audience h.trusted,
      held_party (w.client ∷ w.authorized_parties) c.audience c.authorized_party h.party h.several,
      untested (int_lt n (c.expires_at +ℤ pos w.leeway)) h.not_expired.lt,
      untested (int_le c.issued_at (n +ℤ pos w.leeway)) h.issued.le,
      held_nonce w.nonce c.nonce h.nonce,
      held_age w.leeway n w.greatest_age c.auth_time h.age,
    ) refl
