use Rattle.std.proofs.Common.{ap}
use Rattle.http1.specs.Fields.{known_fields}
use Rattle.oauth2_http1.proofs.reply.names_coding.Goals as goal

pub returns : goal.returns
unfolding known_fields
returns c = ap (λ k. k.other_coding) c.from_spans.ensures
