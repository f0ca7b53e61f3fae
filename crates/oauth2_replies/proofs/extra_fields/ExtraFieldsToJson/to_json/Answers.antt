use Rattle.std.proofs.Common.{refl}
use Rattle.oauth2_replies.specs.Extra.{extra_members}
use Rattle.oauth2_replies.proofs.extra_fields.ExtraFieldsToJson.to_json.Goals as goal

pub returns-clause-kept : goal.returns-clause-kept
returns-clause-kept c = record { members = extra_members c.args.self.now; written = refl; back = refl }

pub returns-in_err-clone-clause-kept : goal.returns-in_err-clone-clause-kept
returns-in_err-clone-clause-kept c = record { members = extra_members c.args.self.now; written = refl; back = refl }
