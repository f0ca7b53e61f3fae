use Rattle.std.proofs.Common.{rules}
use Rattle.oauth2_types.proofs.Through.{displays_styled_through, displays_of_displays_styled}
use Rattle.oauth2_types.proofs.display.write_display.Goals as goal

pub returns-clause-writes : goal.returns-clause-writes
returns-clause-writes g c = displays_of_displays_styled g.W.Write.write_str_gives _ _ _ _ (displays_styled_through g.W.Write.write_str_gives _ _ c.into_inner.result _ _ _ c.into_inner.ensures (λ same. search rules) c.write-result.ensures.writes)

pub returns-clause-styled : goal.returns-clause-styled
returns-clause-styled g c = displays_styled_through g.W.Write.write_str_gives _ _ c.into_inner.result _ _ _ c.into_inner.ensures (λ same. search rules) c.write-result.ensures.writes
