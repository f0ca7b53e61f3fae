use Rattle.oauth2_openid.specs.Reading.{compact_token_reading}
use Rattle.oauth2_signed_tokens.proofs.access_tokens.Parts.{handed_on}
use Rattle.oauth2_signed_tokens.proofs.access_tokens.access_token.JwtAccessToken.from_text.Goals as goal

pub returns-in-Ok-clause-read : goal.returns-in-Ok-clause-read
returns-in-Ok-clause-read c = rw c.in-Ok.ensures.read c.with_own_claims.ensures.read

pub returns-in-Err-clause-read : goal.returns-in-Err-clause-read
returns-in-Err-clause-read c = handed_on c.in-Err.error (compact_token_reading c.args.text.now) c.in-Err.ensures.read
