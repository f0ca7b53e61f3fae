use Rattle.std.proofs.Common.{rules}
use Rattle.oauth2_callers.proofs.ReadBack.{fields_kept}
use Rattle.oauth2_callers.proofs.own_types.kept.fields_are_kept.Goals as goal

pub returns : goal.returns
returns c = fields_kept c.args.fields.now (search rules)
