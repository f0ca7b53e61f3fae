use Rattle.std.proofs.Common.{◌≡◌, drop}
use Rattle.oauth2_openid.specs.Checks.{is_among}
use Rattle.oauth2_signed_tokens.proofs.access_tokens.access_token.is_scope_among.Given as goal

abbrev pub invariant-loop-each : goal.invariant-loop-each
invariant-loop-each l = is_among l.scope l.scopes ≡ is_among l.scope (drop l.each-index l.scopes)
