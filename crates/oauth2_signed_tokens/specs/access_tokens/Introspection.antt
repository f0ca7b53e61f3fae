-- A verified token as the response of an introspection (RFC 7662, 2.2), and the scope of a token.
use Rattle.std.specs.Prelude.{ℕ, List, Bool, true, false, Option, Some, None}
use Rattle.oauth2_introspection.specs.Introspection.{Introspection, introspection}
use Rattle.oauth2_openid.specs.Checks.{is_among}
use Rattle.oauth2_signed_tokens.specs.access_tokens.AccessToken.{AccessToken}

-- whether a scope is one of those of the token, byte for byte; none is if the token has no scopes
abbrev pub is_in_scope : List ℕ → Option (List (List ℕ)) → Bool
is_in_scope scope None = false
is_in_scope scope (Some scopes) = is_among scope scopes

-- the response for an active token; it has no `username` and no `token_type`, which a JWT access
-- token does not have
abbrev pub introspection_of : {E T : Type 0} → AccessToken → E → Introspection E T
introspection_of t extra_fields =
    let claims = t.token.claims.own in
    introspection true t.own.scopes (Some t.own.client_id) None None (Some claims.expires_at)
    (Some claims.issued_at)
    t.own.not_before (Some claims.subject) (Some claims.audience) (Some claims.issuer)
    (Some t.own.token_id) extra_fields
