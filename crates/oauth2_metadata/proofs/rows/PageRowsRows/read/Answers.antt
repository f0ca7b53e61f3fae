use Rattle.std.proofs.lemmas.Result.{err_from_is_err_and}
use Rattle.oauth2_body_members.specs.Object.{object_members}
use Rattle.oauth2_metadata.specs.Metadata.{PageMembers, page_group, page_in, page_table}
use Rattle.oauth2_metadata.proofs.MetadataRows.{group_read, group_errs}
use Rattle.oauth2_metadata.proofs.rows.PageRowsRows.read.Goals as goal

pub returns-in_err-values-clause-read : goal.returns-in_err-values-clause-read
unfolding page_in
returns-in_err-values-clause-read c =
    let p = err_from_is_err_and c.from_residual.result c.from_residual.ensures.1 in
    rw (p.1, p.2) (group_errs PageMembers page_table page_group (object_members c.args.object.now) c.in_err-values.field-0.0 c.in_err-values.ensures.read)

pub returns-clause-read : goal.returns-clause-read
unfolding page_in
returns-clause-read c = group_read PageMembers page_table page_group (object_members c.args.object.now) _ c.in_ok-values.ensures.read
