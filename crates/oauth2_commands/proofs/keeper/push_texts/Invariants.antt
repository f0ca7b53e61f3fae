use Rattle.std.proofs.Common.{◌≡◌, ◌++◌, map, take}
use Rattle.std.specs.Prelude.{string_bytes}
use Rattle.oauth2_commands.proofs.keeper.push_texts.Given as goal

abbrev pub invariant-loop-string : goal.invariant-loop-string
invariant-loop-string l =
    map (λ text. text.now) l.texts.items ≡ map (λ text. text.now) l.initial.texts.items ++ map string_bytes (take l.string-index l.strings)
