use Rattle.std.proofs.Common.{◌≡◌, ◌+◌, ◌*◌, get_or, arith, rules}
use Rattle.std.specs.Char.{digit_value}
use Rattle.std.proofs.lemmas.List.{take_rest}
use Rattle.oauth2_redirect.proofs.Escapes.{decode-at_escape, decode-percent}
use Rattle.oauth2_redirect.proofs.decoding.split_escape.Goals as goal

pub returns-in_default-clause-value : goal.returns-in_default-clause-value
returns-in_default-clause-value c = decode-percent _ (λ long high low. grind arith)

pub returns-in_err-high-clause-value : goal.returns-in_err-high-clause-value
returns-in_err-high-clause-value c = rw c.from_residual.ensures (decode-percent _ (λ long high low. search rules))

pub returns-in_err-low-clause-value : goal.returns-in_err-low-clause-value
returns-in_err-low-clause-value c = rw c.from_residual-in_err-low.ensures (decode-percent _ (λ long high low. search rules))

pub returns-clause-value : goal.returns-clause-value
returns-clause-value c =
    let bytes = c.args.bytes.now in
    let value : c.in_ok-high.high * 16 + c.in_ok-low.low ≡ 16 * digit_value (get_or bytes 0 0) + digit_value (get_or bytes 1 0) = grind arith in
    rw (take_rest bytes 2, value) (decode-at_escape bytes (omega arith) (search rules) (search rules))
