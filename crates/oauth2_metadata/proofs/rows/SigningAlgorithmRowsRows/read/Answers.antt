use Rattle.std.proofs.lemmas.Result.{err_from_is_err_and}
use Rattle.oauth2_body_members.specs.Object.{object_members}
use Rattle.oauth2_metadata.specs.Metadata.{SigningAlgorithmMembers, signing_algorithm_group, signing_algorithm_in, signing_algorithm_table}
use Rattle.oauth2_metadata.proofs.MetadataRows.{group_read, group_errs}
use Rattle.oauth2_metadata.proofs.rows.SigningAlgorithmRowsRows.read.Goals as goal

pub returns-in_err-values-clause-read : goal.returns-in_err-values-clause-read
unfolding signing_algorithm_in
returns-in_err-values-clause-read c =
    let p = err_from_is_err_and c.from_residual.result c.from_residual.ensures.1 in
    rw (p.1, p.2) (group_errs SigningAlgorithmMembers signing_algorithm_table signing_algorithm_group (object_members c.args.object.now) c.in_err-values.field-0.0 c.in_err-values.ensures.read)

pub returns-clause-read : goal.returns-clause-read
unfolding signing_algorithm_in
returns-clause-read c = group_read SigningAlgorithmMembers signing_algorithm_table signing_algorithm_group (object_members c.args.object.now) _ c.in_ok-values.ensures.read
