use Rattle.std.proofs.Common.{refl}
use Rattle.std.proofs.lemmas.Result.{IfOk-weaker}
use Rattle.oauth2_commands.specs.IdToken.{checked_json}
use Rattle.oauth2_commands.proofs.NoFloats.{checked_data-no_float}
use Rattle.oauth2_commands.proofs.id_token.show_claims.Goals as goal

pub show_answer-requires : goal.show_answer-requires
show_answer-requires c = checked_data-no_float c.args.hash c.claims-claims.result.now

pub returns : goal.returns
unfolding checked_json
returns c = IfOk-weaker c.show_answer.result _ _ (λ status shows. rw c.claims-claims.ensures at (shows _ refl)) c.show_answer.ensures
