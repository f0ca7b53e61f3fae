use Rattle.std.proofs.lemmas.Result.{IfOk-weaker}
use Rattle.oauth2_commands.specs.Metadata.{metadata_json}
use Rattle.oauth2_commands.proofs.Discovery.{metadata_free, metadata_written-data}
use Rattle.oauth2_commands.proofs.metadata.show_metadata.Goals as goal

pub show_answer-requires : goal.show_answer-requires
show_answer-requires c = metadata_free c.in-Ok.metadata

pub returns-in-Ok : goal.returns-in-Ok
unfolding metadata_json
returns-in-Ok c =
    IfOk-weaker c.show_answer.result _ _ (λ status shows. rw c.in-Ok.is (shows _ (metadata_written-data c.in-Ok.metadata))) c.show_answer.ensures

pub returns-in-Err : goal.returns-in-Err
returns-in-Err c =
    IfOk-weaker c.show_metadata_error.result _ _ (λ status printed. rw c.in-Err.is printed) c.show_metadata_error.ensures
