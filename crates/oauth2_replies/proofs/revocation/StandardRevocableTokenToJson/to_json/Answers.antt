use Rattle.std.proofs.Common.{◌≡◌, Ok}
use Rattle.oauth2_json.proofs.Objects.{if_written}
use Rattle.oauth2_replies.specs.Revocable.{revocable_reading, revocable_writing}
use Rattle.oauth2_replies.proofs.RevocableLaws.{read_again}
use Rattle.oauth2_replies.proofs.revocation.StandardRevocableTokenToJson.to_json.Goals as goal

pub returns-clause-reads_back : goal.returns-clause-reads_back
returns-clause-reads_back c =
    let token = c.args.self.now in
    if_written c.to_value.result (revocable_writing token) (λ d. revocable_reading d ≡ Ok token) c.to_value.ensures (read_again token)
