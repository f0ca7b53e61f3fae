use Rattle.std.proofs.Common.{sym}
use Rattle.oauth2_adapters.proofs.Headers.{all_ascii, on_true}
use Rattle.oauth2_adapters.proofs.commas_in_scopes.has_commas.Goals as goal

pub returns-clause-ascii : goal.returns-clause-ascii
returns-clause-ascii c = on_true c.has_comma.result (all_ascii c.args.text.now (sym c.if-not-is_ascii.ensures))
