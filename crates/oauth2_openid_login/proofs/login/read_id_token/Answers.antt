use Rattle.std.proofs.Common.{◌≡◌, Some, ap, ◌∙◌, sym}
use Rattle.oauth2_openid.specs.Reading.{compact_token_reading}
use Rattle.oauth2_openid_login.specs.End.{id_token_reading}
use Rattle.oauth2_openid_login.proofs.EndLaws.{JudgesIdToken-unread}
use Rattle.oauth2_openid_login.proofs.login.read_id_token.Goals as goal

pub returns-in-Err-clause-error : goal.returns-in-Err-clause-error
returns-in-Err-clause-error g c = λ expected now.
    let told = compact_token_reading c.as_str.result.now in
    let is : id_token_reading (g.TR.HasIdToken.id_token c.args.response.now) ≡ Some told = ap id_token_reading (sym c.in-Some.ensures) ∙ ap (λ text. Some (compact_token_reading text)) (sym (c.as_str.ensures.value ∙ c.secret.ensures)) in
    JudgesIdToken-unread g.TR.TokenResponse.access_token g.TR.HasIdToken.id_token expected now c.args.response.now c.in-Err.error told c.read_error.result c.read_error.ensures is c.in-Err.ensures.read
