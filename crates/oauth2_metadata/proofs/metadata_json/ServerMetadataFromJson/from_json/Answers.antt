use Rattle.std.proofs.lemmas.Result.{err_from_is_err_and}
use Rattle.serde_json.specs.View.{view}
use Rattle.oauth2_metadata.specs.Metadata.{metadata_names}
use Rattle.oauth2_metadata.proofs.MetadataRows.{value_errs, value_read}
use Rattle.oauth2_metadata.proofs.metadata_json.ServerMetadataFromJson.from_json.Goals as goal

pub returns-in_err-values : goal.returns-in_err-values
unfolding metadata_names
returns-in_err-values g c =
    let p = err_from_is_err_and c.from_residual.result c.from_residual.ensures.1 in
    rw (p.1, p.2) (value_errs g.EF.FromJson.reading (view c.args.value) c.in_err-values.field-0.0 c.in_err-values.ensures)

pub returns : goal.returns
unfolding metadata_names
returns g c = rw c.metadata_of.ensures (value_read g.EF.FromJson.reading (view c.args.value) _ c.in_ok-values.ensures)
