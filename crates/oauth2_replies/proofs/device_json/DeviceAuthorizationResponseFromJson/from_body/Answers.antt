use Rattle.std.proofs.lemmas.Iterator.Adapters.{option_map_id}
use Rattle.std.proofs.lemmas.Result.{err_from_is_err_and}
use Rattle.oauth2_member_rows.proofs.Tables.{body_built, body_errs}
use Rattle.oauth2_replies.specs.Device.{DeviceAuthorization, device_authorization, device_table}
use Rattle.oauth2_replies.proofs.DeviceLaws.{address_of_body}
use Rattle.oauth2_replies.proofs.device_json.DeviceAuthorizationResponseFromJson.from_body.Goals as goal

pub returns-in_err-values : goal.returns-in_err-values
returns-in_err-values g c =
    let E = g.EF.FromJson in
    let p = err_from_is_err_and c.from_residual.result c.from_residual.ensures.1 in
    rw (p.1, p.2) (body_errs (DeviceAuthorization E.Meaning) device_table device_authorization E.reading c.args.bytes.now c.in_err-values.field-0.0 c.in_err-values.ensures)

pub response_of-requires : goal.response_of-requires
response_of-requires g c = address_of_body g.EF.FromJson.reading c.args.bytes.now _ c.in_ok-values.ensures

pub returns : goal.returns
returns g c =
    let E = g.EF.FromJson in
    rw c.response_of.ensures (simp option_map_id at (body_built (DeviceAuthorization E.Meaning) device_table device_authorization E.reading c.args.bytes.now _ c.in_ok-values.ensures))
