use Rattle.std.proofs.Common.{IsOk, true≢false, sym}
use Rattle.oauth2_keys.specs.Signature.{check_of}
use Rattle.oauth2_signed_tokens.specs.logout_tokens.Seen.{logout_token_of}
use Rattle.oauth2_signed_tokens.proofs.logout_tokens.RuleLaws.{decided, broken}
use Rattle.oauth2_signed_tokens.proofs.logout_tokens.logout_token.LogoutToken.check.Goals as goal

pub returns-in-Ok-clause-succeeds : goal.returns-in-Ok-clause-succeeds
returns-in-Ok-clause-succeeds c =
    decided (IsOk c.check_signature.result) c.args.expected.now (check_of c.args.check) c.args.now.nanosecond (logout_token_of c.args.self.now) c.in-Ok.ensures c.check_signature.ensures.verified

pub returns-in-Err-clause-succeeds : goal.returns-in-Err-clause-succeeds
returns-in-Err-clause-succeeds c = (
  λ ok. absurd (true≢false (sym ok)),
  λ h. absurd (broken c.args.expected.now (check_of c.args.check) c.args.now.nanosecond (logout_token_of c.args.self.now) c.in-Err.fault c.in-Err.ensures h),
)
