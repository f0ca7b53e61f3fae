use Rattle.std.proofs.Common.{◌≡◌, Ok}
use Rattle.oauth2_json.proofs.Objects.{if_written}
use Rattle.oauth2_replies.specs.Token.{token_seen, token_writing, token_reading, IsTokenKept}
use Rattle.oauth2_replies.proofs.TokenLaws.{token_back}
use Rattle.oauth2_replies.proofs.token_json.StandardTokenResponseToJson.to_json.Goals as goal

pub returns-clause-written : goal.returns-clause-written
returns-clause-written g c = rw (← c.self.view_is, c.in_ok-token_type.ensures) c.object_with.ensures

pub returns-clause-reads_back : goal.returns-clause-reads_back
returns-clause-reads_back g c =
    let r = c.args.self.now in
    let E = g.EF.FromJson in
    let T = g.TT.FromJson in
    let ew = g.EF.ToJson.writing in
    let tw = g.TT.ToJson.writing in
    if_written c.object_with.result (token_writing ew tw r) (λ d. IsTokenKept E.reading E.meaning ew T.reading T.meaning tw r → token_reading E.reading T.reading d ≡ Ok (token_seen E.meaning T.meaning r))
    (returns-clause-written g c) (λ d h k. token_back E.reading E.meaning ew T.reading T.meaning tw r d h k)
