-- All rules of a token are met exactly where it is as the standard says.
use Rattle.std.proofs.Common.{◌≡◌, ◌≢◌, ℕ, ℤ, pos, ◌+ℤ◌, ◌↔◌, List, [], map, Bool, ◌||◌, true, false, true≢false, not, Option, Some, None, IfSome, Result, Ok, Err, IsOk, bytes_eq, codes, if◌then◌else◌, refl, sym}
use Rattle.std.proofs.lemmas.Slice.Eq.{bytes_eq-Decides}
use Rattle.std.specs.Char.{to_ascii_lowercase}
use Rattle.serde_json.specs.Find.{get}
use Rattle.oauth2_types.specs.Pkce.{base64url}
use Rattle.oauth2_openid.specs.declared.claims_error.ClaimsError.{ClaimsError}
use Rattle.oauth2_openid.specs.declared.claims_error.ClaimsError.TheVariants as errors
use Rattle.oauth2_openid.specs.declared.access_token_hash.AccessTokenHash.{AccessTokenHash}
use Rattle.oauth2_openid.specs.declared.access_token_hash.AccessTokenHash.TheVariants as hash
use Rattle.oauth2_openid.specs.Claims.{Expectation}
use Rattle.oauth2_openid.specs.Token.{DecodedToken}
use Rattle.oauth2_openid.specs.TokenRules.{algorithm_of, half_digest, told_hash, hash_rule, tenant_of, rules_checked, token_checked, IsAlgorithm, IsHashOf, RulesHold, Holds}
use Rattle.oauth2_openid.proofs.CheckLaws.{rule_held, both, absent_held}
use Rattle.oauth2_openid.proofs.KindLaws.{encoded_held, held_encoded, type_held, held_type, started_held, held_started}
use Rattle.oauth2_openid.proofs.RuleLaws.{claims_held, held_claims}

-- ---- the algorithm

differs : (a b : List ℕ) → bytes_eq a b ≡ false → a ≢ b
differs a b h e = absurd (true≢false (cc (h, (bytes_eq-Decides a b).1 e)))

neither : (a b : Bool) → not (a || b) ≡ true → (a ≡ false) × (b ≡ false)
neither true b h = absurd (true≢false (sym h))
neither false true h = absurd (true≢false (sym h))
neither false false h = (refl, refl)

unequal : (a b : List ℕ) (t : Bool) → bytes_eq a b ≡ t → a ≢ b → t ≡ false
unequal a b true e h = absurd (h ((bytes_eq-Decides a b).0 e))
unequal a b false e h = refl

algorithm_held : (o : Option (List ℕ)) (a : List ℕ) → algorithm_of o a ≡ Ok tt → IsAlgorithm o a
algorithm_held None a h =
    let n = neither (bytes_eq a []) (bytes_eq (map to_ascii_lowercase a) (codes "none")) (rule_held _ _ h) in
    (differs a [] n.0, differs (map to_ascii_lowercase a) (codes "none") n.1)
algorithm_held (Some r) a h = (bytes_eq-Decides a r).0 (rule_held _ _ h)

held_algorithm : (o : Option (List ℕ)) (a : List ℕ) → IsAlgorithm o a → algorithm_of o a ≡ Ok tt
held_algorithm None a h =
    rw (unequal a [] (bytes_eq a []) refl h.0, unequal (map to_ascii_lowercase a) (codes "none") (bytes_eq (map to_ascii_lowercase a) (codes "none")) refl h.1) refl
held_algorithm (Some r) a h = rw ((bytes_eq-Decides a r).1 h) refl

-- ---- the hash

matched : (b : Bool) (v : AccessTokenHash) → (if b then Ok hash.Matches else Err errors.OtherAccessToken) ≡ Ok v → b ≡ true
matched true v h = refl
matched false v h = absurd (cc)

half_held : (told : List ℕ) (o : Option (List ℕ)) (v : AccessTokenHash) → told_hash told o ≡ Ok v → IfSome o (λ half. told ≡ base64url half)
half_held told None v h = tt
half_held told (Some half) v h = (bytes_eq-Decides told (base64url half)).0 (matched (bytes_eq told (base64url half)) v h)

hash_held : (a t : List ℕ) (o : Option (List ℕ)) (v : AccessTokenHash) → hash_rule a t o ≡ Ok v → IsHashOf a t o
hash_held a t None v h = tt
hash_held a t (Some told) v h = half_held told (half_digest a t) v h

held_half : (told : List ℕ) (o : Option (List ℕ)) → IfSome o (λ half. told ≡ base64url half) → IsOk (told_hash told o)
held_half told None h = refl
held_half told (Some half) h = rw ((bytes_eq-Decides told (base64url half)).1 h) refl

held_hash : (a t : List ℕ) (o : Option (List ℕ)) → IsHashOf a t o → IsOk (hash_rule a t o)
held_hash a t None h = refl
held_hash a t (Some told) h = held_half told (half_digest a t) h

-- ---- all

pub rules_held : (w : Expectation) (n : ℤ) (t : DecodedToken) → rules_checked w n t ≡ Ok tt → RulesHold w n t
rules_held w n t h =
    let header = both _ _ _ h in
    let later = both _ _ _ header.1 in
    let g = both _ _ _ header.0 in
    let x = both _ _ _ g.1 in
    let p = both _ _ _ x.1 in
    record {
      algorithm = algorithm_held w.algorithm t.header.own.algorithm g.0;
      no_extension = absent_held (get (codes "crit") t.header.others) (rule_held _ _ x.0);
      encoded = encoded_held (get (codes "b64") t.header.others) (rule_held _ _ p.0);
      token_type = type_held (get (codes "typ") t.header.others) (rule_held _ _ p.1);
      claims = claims_held w n (tenant_of t.claims.others) t.claims.own later.0;
      started = started_held (n +ℤ pos w.leeway) (get (codes "nbf") t.claims.others) (rule_held _ _ later.1);
    }

pub held_rules : (w : Expectation) (n : ℤ) (t : DecodedToken) → RulesHold w n t → rules_checked w n t ≡ Ok tt
held_rules w n t h =
    rw (
      held_algorithm w.algorithm t.header.own.algorithm h.algorithm,
      h.no_extension,
      held_encoded (get (codes "b64") t.header.others) h.encoded,
      held_type (get (codes "typ") t.header.others) h.token_type,
      held_claims w n (tenant_of t.claims.others) t.claims.own h.claims,
      held_started (n +ℤ pos w.leeway) (get (codes "nbf") t.claims.others) h.started,
    ) refl

held : (w : Expectation) (a : List ℕ) (n : ℤ) (t : DecodedToken) (v : AccessTokenHash) → token_checked w a n t ≡ Ok v → Holds w a n t
held w a n t v h =
    let two = both (rules_checked w n t) (hash_rule t.header.own.algorithm a t.claims.own.access_token_hash) v h in
    record {
      rules = rules_held w n t two.0;
      hash = hash_held t.header.own.algorithm a t.claims.own.access_token_hash v two.1;
    }

all : (w : Expectation) (a : List ℕ) (n : ℤ) (t : DecodedToken) → Holds w a n t → IsOk (token_checked w a n t)
all w a n t h = rw (held_rules w n t h.rules) (held_hash t.header.own.algorithm a t.claims.own.access_token_hash h.hash)

some_held : (w : Expectation) (a : List ℕ) (n : ℤ) (t : DecodedToken) (r : Result AccessTokenHash ClaimsError) → token_checked w a n t ≡ r → IsOk r → Holds w a n t
some_held w a n t (Ok v) e ok = held w a n t v e
some_held w a n t (Err error) e ok = absurd (true≢false (sym ok))

-- a check that answers as the rules do succeeds exactly where all hold
pub succeeds : (w : Expectation) (a : List ℕ) (n : ℤ) (t : DecodedToken) (r : Result AccessTokenHash ClaimsError) → r ≡ token_checked w a n t → IsOk r ↔ Holds w a n t
succeeds w a n t r e = (λ ok. some_held w a n t r (sym e) ok, λ h. rw e (all w a n t h))
