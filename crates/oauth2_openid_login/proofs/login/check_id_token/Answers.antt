use Rattle.oauth2_openid_login.proofs.login.check_id_token.Goals as goal

pub returns-in-Err-clause-judges : goal.returns-in-Err-clause-judges
returns-in-Err-clause-judges g c = c.in-Err.ensures.error c.args.expected.now c.args.now.nanosecond
