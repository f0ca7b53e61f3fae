use Rattle.std.proofs.Common.{refl, sym}
use Rattle.oauth2_openid.specs.Seen.{token_of}
use Rattle.oauth2_openid.proofs.TokenRuleLaws.{rules_held}
use Rattle.oauth2_verified_login.proofs.hybrid.FrontLaws.{found_hash}
use Rattle.oauth2_verified_login.proofs.hybrid.front_token.check_hash_and_signature.Goals as goal

pub returns-in-Ok : goal.returns-in-Ok
returns-in-Ok c = λ expected now met.
    let token = token_of c.args.token.now in
    let hash = found_hash token c.args.code.now c.in-Some.told.now c.algorithm.result.now c.as_bytes.result.now c.in-Some.ensures (cc) (cc) (sym c.if-not-is_code_hash.ensures) in (
      record {
        rules = rules_held expected now token met;
        code_hash = hash;
      },
      c.in-Ok.ensures.verified.0 refl,
    )

pub returns-in-Err : goal.returns-in-Err
returns-in-Err c = λ expected now met.
    let token = token_of c.args.token.now in
    let hash = found_hash token c.args.code.now c.in-Some.told.now c.algorithm.result.now c.as_bytes.result.now c.in-Some.ensures (cc) (cc) (sym c.if-not-is_code_hash.ensures) in (
      record {
        rules = rules_held expected now token met;
        code_hash = hash;
      },
      c.in-Err.ensures.refused,
    )
