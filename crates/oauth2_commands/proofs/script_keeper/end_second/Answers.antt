use Rattle.std.proofs.Common.{rules, ◌≡◌, ℤ, Option, Some, ap, ◌∙◌, sym, to_z, of_z, to_z-of_z, w64}
use Rattle.std.specs.Prelude.{int_div, option_map, pos}
use Rattle.jiff.specs.Types.{Timestamp}
use Rattle.oauth2_commands.proofs.script_keeper.end_second.Goals as goal

pub returns-in-Some : goal.returns-in-Some
returns-in-Some c =
    let fits : Some (to_z w64 (of_z w64 c.as_second.result)) ≡ Some c.as_second.result = search (rules, to_z-of_z) in
    fits ∙ ap (λ (second : ℤ). Some second) c.as_second.ensures
    ∙ ap (λ (until : Option Timestamp). option_map (λ moment. int_div moment.nanosecond (pos 1_000_000_000)) until)
    (sym c.in-Some.is)
