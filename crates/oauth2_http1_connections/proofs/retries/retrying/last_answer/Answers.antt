use Rattle.std.proofs.Common.{◌≡◌, ap, sym, ◌∙◌}
use Rattle.http.specs.Request.{head_of}
use Rattle.oauth2_http1_connections.specs.retries.Answers.{is_repeatable}
use Rattle.oauth2_http1_connections.proofs.retries.retrying.last_answer.Goals as goal

pub returns-clause-answer : goal.returns-clause-answer
returns-clause-answer g c =
    let unsent = g.C.Error.TellsUnsent.unsent in
    let method : c.as_str.result.now ≡ (head_of c.args.request.now).method = c.as_str.ensures.value ∙ c.method.ensures in
    record {
      answer = c.call-answer.result;
      called = c.call-answer.new.self;
      duration = c.pause_after.result;
      calls = c.call-answer.ensures.step;
      again = ap (λ m. is_repeatable unsent m c.call-answer.result) (sym method) ∙ sym c.is_repeatable.ensures ∙ c.if-not-is_repeatable.false;
      time = c.pause_after.ensures;
      slept = c.sleep.ensures.sleeps;
    }
