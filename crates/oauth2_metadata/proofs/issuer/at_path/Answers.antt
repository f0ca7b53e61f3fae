use Rattle.std.proofs.Common.{◌≡◌, ℕ, List, Ok, ap, sym, ◌∙◌}
use Rattle.url.specs.Parts.{Parts}
use Rattle.url.specs.Parser.{Parsed, with_path}
use Rattle.url.specs.Setters.{set_path}
use Rattle.oauth2_metadata.proofs.PlaceLaws.{set_own_path}
use Rattle.oauth2_metadata.proofs.issuer.at_path.Goals as goal

abbrev ok : Parts → Parsed Parts
ok url = Ok url

same_value : (a b : Parts) → ok a ≡ ok b → a ≡ b
same_value a b h = cc

moved_to : (path : List ℕ) (old url new : Parts) → old ≡ url → ok (set_path old path) ≡ ok new → set_path url path ≡ with_path url path → new ≡ with_path url path
moved_to path old url new same set own = sym (same_value (set_path old path) new set) ∙ ap (λ u. set_path u path) same ∙ own

pub returns-in-Ok-clause-ok : goal.returns-in-Ok-clause-ok
returns-in-Ok-clause-ok c =
    moved_to c.args.path.now c.in_ok-moved.moved c.args.url.now c.set_path.new.self c.in_ok-moved.ensures.cases c.in-Ok.ensures.0
    (set_own_path c.args.url.now c.args.path.now c.requires.valid c.requires.web c.requires.segments c.requires.some)
