use Rattle.std.proofs.Common.{map, ap, ◌∙◌}
use Rattle.std.proofs.lemmas.List.{map-append}
use Rattle.oauth2_metadata.proofs.rows.push_each.Goals as goal

pub returns : goal.returns
returns c = ap (map (λ name. name.now)) c.in_ok-extend_from_slice.ensures.items ∙ map-append (λ name. name.now) _ _
