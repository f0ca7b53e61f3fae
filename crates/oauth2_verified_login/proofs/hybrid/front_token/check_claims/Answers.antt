use Rattle.std.proofs.Common.{◌∙◌}
use Rattle.oauth2_openid.specs.Seen.{token_of}
use Rattle.oauth2_verified_login.proofs.hybrid.FrontLaws.{front-ok, front-error}
use Rattle.oauth2_verified_login.proofs.hybrid.front_token.check_claims.Goals as goal

pub returns-in-Ok : goal.returns-in-Ok
returns-in-Ok c = front-ok c.args.expected.now _ c.args.now.nanosecond (token_of c.args.token.now) _ c.in-Ok.ensures.rules

pub returns : goal.returns
returns c =
    c.without_hash_error.ensures ∙ front-error c.args.expected.now _ c.args.now.nanosecond (token_of c.args.token.now) c.in-Err.error c.in-Err.ensures.rules
