use Rattle.std.proofs.Common.{◌≤◌, length, sym, ap, arith}
use Rattle.std.proofs.lemmas.List.{length-take-le}
use Rattle.sha2.proofs.Facts512.{length-sha512}
use Rattle.oauth2_verified_login.proofs.hybrid.code_hash.is_half_of_sha512.Goals as goal

pub slice_bounds-encodes-end-2 : goal.slice_bounds-encodes-end-2
slice_bounds-encodes-end-2 c =
    let long : 32 ≤ length c.digest.result = omega (arith, ap length c.digest.ensures, length-sha512 c.args.code.now) in
    sym (length-take-le 32 c.digest.result long)

pub encodes-requires : goal.encodes-requires
encodes-requires c =
    let long : 32 ≤ length c.digest.result = omega (arith, ap length c.digest.ensures, length-sha512 c.args.code.now) in
    omega (arith, length-take-le 32 c.digest.result long)
