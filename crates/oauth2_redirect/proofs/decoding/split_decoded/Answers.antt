use Rattle.std.proofs.Common.{◌≡◌, ◌∷◌, rules}
use Rattle.oauth2_redirect.proofs.Escapes.{decode-other, decode-plus}
use Rattle.oauth2_redirect.proofs.decoding.split_decoded.Goals as goal

pub returns-in-43-clause-value : goal.returns-in-43-clause-value
returns-in-43-clause-value c =
    let is : c.args.encoded.now ≡ 43 ∷ c.in_ok-byte.rest.now = search rules in rw is (decode-plus c.in_ok-byte.rest.now)

pub returns-in_default-clause-value : goal.returns-in_default-clause-value
returns-in_default-clause-value c =
    let is : c.args.encoded.now ≡ c.in_ok-byte.field-0-0.now ∷ c.in_ok-byte.rest.now = search rules in
    rw is (decode-other c.in_ok-byte.field-0-0.now c.in_ok-byte.rest.now (search rules) (search rules))
