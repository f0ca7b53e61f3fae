use Rattle.std.proofs.Common.{◌≡◌, true, not, ◌&&◌, map, take, sym, ap, ◌∙◌, arith}
use Rattle.std.specs.Prelude.{nat_lt}
use Rattle.std.proofs.lemmas.Bool.Decides.{nat_tests}
use Rattle.httparse.specs.Spans.{header_bytes}
use Rattle.http1.specs.Fields.{known_fields}
use Rattle.oauth2_http1.specs.Kept.{states_close}
use Rattle.oauth2_http1.proofs.reply.persists.Goals as goal

pub returns-then-response-gt0 : goal.returns-then-response-gt0
unfolding known_fields
returns-then-response-gt0 c =
    let above : nat_lt 0 c.args.response.now.version ≡ true = grind (arith, nat_tests) in
    let fields = map (header_bytes c.args.input.now) (take c.args.response.now.headers c.args.spans.now) in
    ap (λ k. not k.close) c.from_spans-fields.ensures ∙ ap (λ b. b && not (states_close fields)) (sym above)
