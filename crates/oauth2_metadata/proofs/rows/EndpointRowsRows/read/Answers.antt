use Rattle.std.proofs.lemmas.Iterator.Adapters.{option_map_id}
use Rattle.std.proofs.lemmas.Result.{err_from_is_err_and}
use Rattle.oauth2_body_members.specs.Object.{object_members}
use Rattle.oauth2_metadata.specs.Metadata.{EndpointMembers, endpoint_group, endpoint_in, endpoint_table}
use Rattle.oauth2_metadata.proofs.Addresses.{seen_address}
use Rattle.oauth2_metadata.proofs.MetadataRows.{endpoint_addresses, group_read, group_errs}
use Rattle.oauth2_metadata.proofs.rows.EndpointRowsRows.read.Goals as goal

pub returns-in_err-values-clause-read : goal.returns-in_err-values-clause-read
unfolding endpoint_in
returns-in_err-values-clause-read c =
    let p = err_from_is_err_and c.from_residual.result c.from_residual.ensures.1 in
    rw (p.1, p.2) (group_errs EndpointMembers endpoint_table endpoint_group (object_members c.args.object.now) c.in_err-values.field-0.0 c.in_err-values.ensures.read)

pub returns-clause-read : goal.returns-clause-read
unfolding endpoint_in
returns-clause-read c = simp option_map_id at (group_read EndpointMembers endpoint_table endpoint_group (object_members c.args.object.now) _ c.in_ok-values.ensures.read)

pub invariant_of-result : goal.invariant_of-result
invariant_of-result c =
    let is = endpoint_addresses (object_members c.args.object.now) _ c.in_ok-values.ensures.read in
    (seen_address _ is.0, seen_address _ is.1, seen_address _ is.2, seen_address _ is.3, seen_address _ is.4)
