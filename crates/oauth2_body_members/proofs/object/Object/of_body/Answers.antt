use Rattle.std.proofs.Common.{map, subst}
use Rattle.std.proofs.lemmas.Str.{is_utf8-from_IsUtf8}
use Rattle.serde_json.specs.Read.{read}
use Rattle.oauth2_json.specs.Body.{value_reading}
use Rattle.oauth2_json.specs.Members.{members_of_object}
use Rattle.oauth2_json.proofs.WholeValue.{body_reading-not_json, errs_as}
use Rattle.oauth2_body_members.specs.Object.{object_members, KeptAs}
use Rattle.oauth2_body_members.proofs.object.Object.of_body.Goals as goal

pub returns-in-Ok : goal.returns-in-Ok
returns-in-Ok c =
    let both = c.in-Ok.ensures.cases in
    rw (is_utf8-from_IsUtf8 c.args.bytes.now both.1) (subst (λ t. KeptAs object_members (map (λ k. k.now) c.args.names.now) c.args.keeps_others c.of_text.result (value_reading members_of_object (read t))) both.0 c.of_text.ensures)

pub returns-in-Err : goal.returns-in-Err
returns-in-Err c = errs_as c.whole.result _ _ (body_reading-not_json members_of_object c.args.bytes.now (λ u. absurd (c.in-Err.ensures.cases.0 u))) c.whole.ensures
