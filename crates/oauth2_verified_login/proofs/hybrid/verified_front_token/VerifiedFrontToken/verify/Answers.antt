use Rattle.std.proofs.Common.{Ok, subst}
use Rattle.oauth2_openid.specs.Claims.{Expectation}
use Rattle.oauth2_keys.specs.Signature.{check_of}
use Rattle.oauth2_verified_login.specs.hybrid.FrontToken.{JudgesFrontToken}
use Rattle.oauth2_verified_login.proofs.hybrid.NonceLaws.{HasSentNonce-verified}
use Rattle.oauth2_verified_login.proofs.hybrid.verified_front_token.VerifiedFrontToken.verify.Goals as goal

pub returns-in-Ok-clause-nonce : goal.returns-in-Ok-clause-nonce
returns-in-Ok-clause-nonce c =
    let check = check_of c.args.check in
    let judged = subst (λ (e : Expectation). JudgesFrontToken e check c.args.code.now c.args.now.nanosecond c.args.text.now (Ok c.in-Ok.token)) c.expected.ensures.expected c.in-Ok.ensures in
    HasSentNonce-verified c.args.expected.now check c.args.code.now c.args.now.nanosecond c.args.text.now c.expected.ensures.nonce (Ok c.in-Ok.token) judged
