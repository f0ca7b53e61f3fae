use Rattle.std.proofs.Common.{◌≡◌, ◌≤◌, drop, length, refl, ◌∙◌, arith}
use Rattle.base64.specs.Rfc4648.{unpadded_len}
use Rattle.oauth2_types.specs.Pkce.{base64url}
use Rattle.oauth2_openid.proofs.Encoded.{encoded_front}
use Rattle.oauth2_verified_login.proofs.hybrid.code_hash.encodes.Goals as goal

pub returns-in-Ok : goal.returns-in-Ok
unfolding base64url
returns-in-Ok c =
    let short : length c.args.bytes.now ≤ 32 = c.requires in
    let room : unpadded_len (length c.args.bytes.now) ≤ 43 = omega arith in
    let size : c.in-Ok.len ≡ unpadded_len (length c.args.bytes.now) = cc (c.in-Ok.ensures.fits room) in
    let front = encoded_front c.args.bytes.now (drop (unpadded_len (length c.args.bytes.now)) _) c.encode_slice.new.output c.in-Ok.len c.in-Ok.ensures.written size in
    c.eq.ensures ∙ rw (c.as_bytes.ensures.value, front) refl
