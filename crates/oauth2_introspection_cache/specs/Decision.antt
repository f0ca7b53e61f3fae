-- What a resource server accepts, and what it decides about a request with a token (RFC 6750, 3.1).
use Rattle.std.specs.Prelude.{◌≡◌, ℕ, ℤ, List, [], ◌∷◌, ◌++◌, Bool, true, false, not, ◌&&◌, ◌||◌, Option, Some, None, Result, Ok, Err, string_bytes, bytes_eq, codes, if◌then◌else◌}
use Rattle.oauth2_wire.specs.declared.error.RequestTokenError.{RequestTokenError}
use Rattle.oauth2_wire.specs.Display.{fault_text}
use Rattle.oauth2_introspection_cache.specs.Cache.{Cache, is_before, kept_answer}
use Rattle.oauth2_introspection_cache.specs.declared.accepted.AcceptedAudience.{AcceptedAudience}
use Rattle.oauth2_introspection_cache.specs.declared.accepted.AcceptedAudience.TheVariants as audience
use Rattle.oauth2_introspection_cache.specs.declared.accepted.AcceptedIssuer.{AcceptedIssuer}
use Rattle.oauth2_introspection_cache.specs.declared.accepted.AcceptedIssuer.TheVariants as issuer
use Rattle.oauth2_introspection_cache.specs.declared.accepted.SenderConstraint.{SenderConstraint}
use Rattle.oauth2_introspection_cache.specs.declared.accepted.SenderConstraint.TheVariants as constraint
use Rattle.oauth2_introspection_cache.specs.declared.accepted.AcceptedTokens.{AcceptedTokens}
use Rattle.oauth2_introspection_cache.specs.declared.refusal.TokenRefusal.{TokenRefusal}
use Rattle.oauth2_introspection_cache.specs.declared.refusal.TokenRefusal.TheVariants as refusal
use Rattle.oauth2_introspection_cache.specs.declared.refusal.NotAuthorized.{NotAuthorized}
use Rattle.oauth2_introspection_cache.specs.declared.refusal.NotAuthorized.TheVariants.{Refused, Unknown}

-- what an answer says that a decision depends on (RFC 7662, 2.2): whether its token is active, when it
-- expires, `iss`, `aud`, its type, whether the token is bound to a key (RFC 7800, 3.1: `cnf`), its scope
pub record Said (T : Type 0) : Type 0 where
  pub is_active : Bool
  pub expires : Option ℤ
  pub issuer : Option (List ℕ)
  pub audience : Option (List (List ℕ))
  pub token_type : Option T
  pub is_bound : Bool
  pub scopes : Option (List (List ℕ))

-- what an answer says, by what its getters return
abbrev pub said_by : {D T : Type 0} → (D → Bool) → (D → Option ℤ) → (D → Option (List ℕ))
    → (D → Option (List (List ℕ)))
    → (D → Option T)
    → (D → Bool)
    → (D → Option (List (List ℕ)))
    → D
    → Said T
said_by active exp iss aud token_type is_bound scopes answer = record {
  is_active = active answer;
  expires = exp answer;
  issuer = iss answer;
  audience = aud answer;
  token_type = token_type answer;
  is_bound = is_bound answer;
  scopes = scopes answer;
}

-- ---- the rules

-- whether the text is one of the list, byte for byte
abbrev pub is_among : List ℕ → List (List ℕ) → Bool
is_among text [] = false
is_among text (first ∷ later) = bytes_eq first text || is_among text later

-- RFC 7662, 2.2: `iss` names the issuer, byte for byte; or the server accepts each issuer whose tokens
-- the endpoint knows
abbrev pub is_issuer : AcceptedIssuer → Option (List ℕ) → Bool
is_issuer issuer.EachOfTheEndpoint found = true
is_issuer (issuer.Named name) None = false
is_issuer (issuer.Named name) (Some found) = bytes_eq found (string_bytes name)

-- RFC 9700, 2.3: the token is meant for this server: its name is one of `aud`, byte for byte; or the
-- issuer makes tokens for this server alone
abbrev pub is_audience : AcceptedAudience → Option (List (List ℕ)) → Bool
is_audience audience.IssuedForThisServerAlone found = true
is_audience (audience.Named name) None = false
is_audience (audience.Named name) (Some found) = is_among (string_bytes name) found

-- RFC 6749, 7.1: the type is the one by which the request uses the token, if the answer has a type
abbrev pub is_type : {T : Type 0} → (T → T → Bool) → T → Option T → Bool
is_type same accepted None = true
is_type same accepted (Some found) = same found accepted

-- RFC 8705, 3.2; RFC 9449, 6.2: a token that is bound to a key is not used without a proof of the key
abbrev pub is_constraint_met : SenderConstraint → Bool → Bool
is_constraint_met constraint.NoKeyProven is_bound = not is_bound

-- whether each text of the first list is in the second
abbrev pub are_among : List (List ℕ) → List (List ℕ) → Bool
are_among [] texts = true
are_among (first ∷ later) texts = is_among first texts && are_among later texts

-- RFC 6749, 3.3: each of the scopes that the request needs is one of the token's; an answer without
-- `scope` names none
abbrev pub has_scopes : List (List ℕ) → Option (List (List ℕ)) → Bool
has_scopes needed None = are_among needed []
has_scopes needed (Some scopes) = are_among needed scopes

-- ---- the decision

-- whether the request is authorized, or why not
abbrev pub Verdict : Type 0
Verdict = Result Unit TokenRefusal

abbrev pub rule : Bool → TokenRefusal → Verdict
rule is_met refused = if is_met then Ok tt else Err refused

-- one rule and then another: if both are broken, the first is the refusal
infixr 20 ◌then◌
abbrev pub ◌then◌ : Verdict → Verdict → Verdict
(Ok u) then later = later
(Err e) then later = Err e

-- all rules, in this order, at the moment `now`; `same` compares token types
abbrev pub judged : {T : Type 0} → (T → T → Bool) → AcceptedTokens T → List (List ℕ) → ℤ → Said T
    → Verdict
judged same accepted needed now said =
    rule said.is_active refusal.Inactive
    then rule (is_before now said.expires) refusal.Expired
    then rule (is_issuer accepted.issuer said.issuer) refusal.OtherIssuer
    then rule (is_audience accepted.audience said.audience) refusal.OtherAudience
    then rule (is_type same accepted.token_type said.token_type) refusal.OtherTokenType
    then rule (is_constraint_met accepted.constraint said.is_bound) refusal.SenderConstrained
    then rule (has_scopes needed said.scopes) refusal.InsufficientScope

-- a token without an answer is not active
abbrev pub judged_if_any : {D T : Type 0} → (T → T → Bool) → AcceptedTokens T → List (List ℕ) → ℤ
    → (D → Said T)
    → Option D
    → Verdict
judged_if_any same accepted needed now said None = Err refusal.Inactive
judged_if_any same accepted needed now said (Some answer) =
    judged same accepted needed now (said answer)

-- what follows from whether the token is active and from the verdict on its answer: without an answer
-- nothing is authorized
abbrev pub decision : {RE TE : Type 0} → Result Bool (RequestTokenError RE TE) → Verdict
    → Result Unit (NotAuthorized RE TE)
decision (Ok true) (Ok u) = Ok tt
decision (Ok true) (Err refused) = Err (Refused refused)
decision (Ok false) verdict = Err (Refused refusal.Inactive)
decision (Err error) verdict = Err (Unknown error)

module _ {D RE TE C : Type 0} (asks : Result Bool (RequestTokenError RE TE) → C → Cache D → Type 0) (verdict : Option D → Verdict) (token : List ℕ) where
  -- a request with the token is decided about: whether the token is active is asked, and the answer that
  -- is kept for it then is judged
  abbrev pub Decides : Result Unit (NotAuthorized RE TE) → C → Cache D → Type 0
  Decides result after next =
      (active : Result Bool (RequestTokenError RE TE)) × asks active after next × (result ≡ decision active (verdict (kept_answer next token)))

-- ---- the answer to a request that is refused (RFC 6750, 3 and 3.1)

-- the HTTP status: 403 if the scope does not suffice, else 401
abbrev pub status_of : TokenRefusal → ℕ
status_of refusal.Inactive = 401
status_of refusal.Expired = 401
status_of refusal.OtherIssuer = 401
status_of refusal.OtherAudience = 401
status_of refusal.OtherTokenType = 401
status_of refusal.SenderConstrained = 401
status_of refusal.InsufficientScope = 403

-- the error code: `insufficient_scope` if the scope does not suffice, else `invalid_token`
abbrev pub code_of : TokenRefusal → List ℕ
code_of refusal.Inactive = codes "invalid_token"
code_of refusal.Expired = codes "invalid_token"
code_of refusal.OtherIssuer = codes "invalid_token"
code_of refusal.OtherAudience = codes "invalid_token"
code_of refusal.OtherTokenType = codes "invalid_token"
code_of refusal.SenderConstrained = codes "invalid_token"
code_of refusal.InsufficientScope = codes "insufficient_scope"

-- the value of `WWW-Authenticate`: the scheme, and the error code in quotes
abbrev pub challenge_of : TokenRefusal → List ℕ
challenge_of refused = codes "Bearer error=\"" ++ code_of refused ++ codes "\""

-- what `Display` writes of a refusal
abbrev pub refusal_text : TokenRefusal → List ℕ
refusal_text refusal.Inactive = codes "the token is not active"
refusal_text refusal.Expired = codes "the token has expired"
refusal_text refusal.OtherIssuer = codes "the issuer is another one"
refusal_text refusal.OtherAudience = codes "the resource server is not in the audience"
refusal_text refusal.OtherTokenType = codes "the token is of another type"
refusal_text refusal.SenderConstrained = codes "the token is bound to a key that was not proven"
refusal_text refusal.InsufficientScope = codes "the scope of the token does not suffice"

-- and of a request that is not authorized, where `text` is what it writes of the server's error
abbrev pub not_authorized_text : {RE TE : Type 0} → (TE → Option (List ℕ)) → NotAuthorized RE TE
    → Option (List ℕ)
not_authorized_text text (Refused refused) = Some (refusal_text refused)
not_authorized_text text (Unknown error) = fault_text text error
