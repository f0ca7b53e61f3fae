use Rattle.oauth2_openid.specs.Seen.{token_of}
use Rattle.oauth2_openid.proofs.TokenRuleLaws.{succeeds}
use Rattle.oauth2_openid.proofs.id_token.IdToken.check.Goals as goal

pub returns-clause-succeeds : goal.returns-clause-succeeds
returns-clause-succeeds c = succeeds c.args.expected.now c.args.access_token.now c.args.now.nanosecond (token_of c.args.self.now) c.first_broken.result c.first_broken.ensures
