use Rattle.std.proofs.Common.{rules}
use Rattle.serde_json.specs.View.{view}
use Rattle.serde_json.specs.Errors.{IsMemory}
use Rattle.oauth2_json.proofs.WholeValue.{body_reading-whole, body_reading-not_json, errs_as}
use Rattle.oauth2_json.proofs.read.FromJson.from_body.Goals as goal

pub returns-in-Ok : goal.returns-in-Ok
returns-in-Ok g c =
    let ok = c.in-Ok.ensures.ok in
    rw (body_reading-whole g.Self.FromJson.reading c.args.bytes.now (view c.in-Ok.value) ok.0 ok.1) c.from_json.ensures

pub returns-else-is_memory : goal.returns-else-is_memory
returns-else-is_memory g c =
    let kept : ¬ IsMemory c.in-Err.error = search rules in
    errs_as c.whole.result _ _ (body_reading-not_json g.Self.FromJson.reading c.args.bytes.now (c.in-Err.ensures.err kept)) c.whole.ensures
