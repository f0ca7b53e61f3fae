use Rattle.std.proofs.lemmas.Iterator.Adapters.{option_map_id}
use Rattle.std.proofs.lemmas.Result.{err_from_is_err_and}
use Rattle.oauth2_member_rows.proofs.Tables.{body_built, body_errs}
use Rattle.oauth2_introspection.specs.Introspection.{Introspection, introspection, introspection_table}
use Rattle.oauth2_introspection.proofs.introspection_json.StandardTokenIntrospectionResponseFromJson.from_body.Goals as goal

pub returns-in_err-values : goal.returns-in_err-values
returns-in_err-values g c =
    let E = g.EF.FromJson in
    let T = g.TT.FromJson in
    let p = err_from_is_err_and c.from_residual.result c.from_residual.ensures.1 in
    rw (p.1, p.2) (body_errs (Introspection E.Meaning T.Meaning) (introspection_table T.reading) introspection E.reading c.args.bytes.now c.in_err-values.field-0.0 c.in_err-values.ensures)

pub returns : goal.returns
returns g c =
    let E = g.EF.FromJson in
    let T = g.TT.FromJson in
    rw c.response_of.ensures (simp option_map_id at (body_built (Introspection E.Meaning T.Meaning) (introspection_table T.reading) introspection E.reading c.args.bytes.now _ c.in_ok-values.ensures))
