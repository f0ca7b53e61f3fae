use Rattle.std.proofs.lemmas.Result.{IfOk-weaker}
use Rattle.oauth2_request_commands.specs.Introspect.{introspection_json}
use Rattle.oauth2_request_commands.proofs.Results.{introspection_free, introspection_written-data}
use Rattle.oauth2_commands.proofs.access_token.show_introspection.Goals as goal

pub show_answer-requires : goal.show_answer-requires
show_answer-requires c = introspection_free _

pub returns : goal.returns
unfolding introspection_json
returns c =
    IfOk-weaker c.show_answer.result _ _
    (λ status shows. rw c.in_ok-response.ensures at (shows _ (introspection_written-data c.in_ok-response.response)))
    c.show_answer.ensures
