use Rattle.oauth2_openid.specs.Seen.{token_of}
use Rattle.oauth2_keys.specs.Signature.{check_of}
use Rattle.oauth2_verified_login.proofs.hybrid.FrontLaws.{JudgesFrontToken-unread, JudgesFrontToken-refused}
use Rattle.oauth2_verified_login.proofs.hybrid.front_token.read_front_token.Goals as goal

pub returns-in-Err-check_front_token : goal.returns-in-Err-check_front_token
returns-in-Err-check_front_token c =
    JudgesFrontToken-refused c.args.expected.now (check_of c.args.check) c.args.code.now c.args.now.nanosecond c.args.text.now (token_of c.in-Ok.token) c.in-Err-check_front_token.error c.in-Ok.ensures.read c.in-Err-check_front_token.ensures

pub returns-in-Err : goal.returns-in-Err
returns-in-Err c =
    rw c.read_error.ensures (JudgesFrontToken-unread c.args.expected.now (check_of c.args.check) c.args.code.now c.args.now.nanosecond c.args.text.now c.in-Err.error c.in-Err.ensures.read)
