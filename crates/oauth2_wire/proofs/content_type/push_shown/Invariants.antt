use Rattle.std.proofs.Common.{◌≡◌, ◌++◌, take, string_bytes, flat_map}
use Rattle.oauth2_wire.specs.ContentType.{shown_byte}
use Rattle.oauth2_wire.proofs.content_type.push_shown.Given as goal

abbrev pub invariant-loop-b : goal.invariant-loop-b
invariant-loop-b l = string_bytes l.text ≡ string_bytes l.fn.text ++ flat_map shown_byte (take l.b-index l.value)
