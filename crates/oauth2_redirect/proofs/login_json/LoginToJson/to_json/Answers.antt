use Rattle.oauth2_redirect.proofs.LoginBack.{login_back}
use Rattle.oauth2_redirect.proofs.login_json.LoginToJson.to_json.Goals as goal

pub returns-clause-reads_back : goal.returns-clause-reads_back
returns-clause-reads_back c = rw (← c.self.view_is, c.in_ok-object_of.ensures) (λ kept. login_back _ kept)
