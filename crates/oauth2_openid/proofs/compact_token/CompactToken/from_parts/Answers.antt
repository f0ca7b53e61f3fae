use Rattle.std.proofs.Common.{Some}
use Rattle.oauth2_openid.specs.Reading.{parts_reading}
use Rattle.oauth2_openid.specs.Seen.{compact_token_of}
use Rattle.oauth2_openid.specs.Token.{token_parts}
use Rattle.oauth2_openid.specs.declared.read_error.IdTokenReadError.TheVariants as errors
use Rattle.oauth2_openid.proofs.Parts.{has_parts, in_claims, told}
use Rattle.oauth2_openid.proofs.compact_token.CompactToken.from_parts.Goals as goal

pub returns-in_err-claims-clause-read : goal.returns-in_err-claims-clause-read
returns-in_err-claims-clause-read g c =
    let parts = token_parts c.args.header.now c.args.payload.now c.args.signature.now in
    let reading = g.C.FromJson.reading in
    told (compact_token_of g.C.FromJson.meaning) c.from_residual-in_err-claims.result c.in_err-claims.field-0.0 (parts_reading reading (Some parts)) c.from_residual-in_err-claims.ensures.1
    (in_claims reading parts _ c.in_err-claims.field-0.0 c.in_ok-header.ensures c.in_err-claims.ensures)

pub returns-in_err-signature-clause-read : goal.returns-in_err-signature-clause-read
returns-in_err-signature-clause-read g c =
    let parts = token_parts c.args.header.now c.args.payload.now c.args.signature.now in
    let reading = g.C.FromJson.reading in
    told (compact_token_of g.C.FromJson.meaning) c.from_residual-in_err-signature.result errors.Memory (parts_reading reading (Some parts)) c.from_residual-in_err-signature.ensures.1 (has_parts reading parts)
