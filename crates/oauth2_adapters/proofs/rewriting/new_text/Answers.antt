use Rattle.std.proofs.Common.{◌<◌, length, subst}
use Rattle.std.specs.Prelude.{OnErr}
use Rattle.oauth2_adapters.proofs.RewritingTurns.{on_err_nonempty}
use Rattle.oauth2_adapters.proofs.rewriting.new_text.Goals as goal

pub returns-clause-memory : goal.returns-clause-memory
returns-clause-memory g c =
    on_err_nonempty c.rewrite_members.result c.args.text.now (subst (λ ts. OnErr c.rewrite_members.result (0 < length ts)) c.in_ok-reader.ensures.ok c.rewrite_members.ensures.memory)
