use Rattle.std.proofs.Common.{IsOk, true≢false, sym}
use Rattle.oauth2_signed_tokens.specs.access_tokens.Seen.{access_token_of}
use Rattle.oauth2_signed_tokens.proofs.access_tokens.RuleLaws.{decided, broken}
use Rattle.oauth2_signed_tokens.proofs.access_tokens.access_token.JwtAccessToken.check.Goals as goal

pub returns-in-Ok-clause-succeeds : goal.returns-in-Ok-clause-succeeds
returns-in-Ok-clause-succeeds c =
    decided (IsOk c.check_signature.result) c.args.expected.now c.args.keys.now c.args.now.nanosecond (access_token_of c.args.self.now) c.in-Ok.ensures c.check_signature.ensures.verified

pub returns-in-Err-clause-succeeds : goal.returns-in-Err-clause-succeeds
returns-in-Err-clause-succeeds c = (
  λ ok. absurd (true≢false (sym ok)),
  λ h. absurd (broken c.args.expected.now c.args.keys.now c.args.now.nanosecond (access_token_of c.args.self.now) c.in-Err.fault c.in-Err.ensures h),
)
