use Rattle.std.proofs.Common.{subst}
use Rattle.std.specs.Fmt.{HasWritten}
use Rattle.oauth2_types.specs.Pkce.{base64url}
use Rattle.oauth2_openid.proofs.compact.EncodedDisplay.fmt.Goals as goal

-- what was written is the engine's encoding, which is base64url
pub returns-clause-writes : goal.returns-clause-writes
unfolding base64url
returns-clause-writes g c plain ok = subst (λ text. HasWritten g.W.Write.write_str_gives c.args.f.now text c.fmt.new.f) c.new.ensures (c.fmt.ensures.writes plain ok)
