use Rattle.std.proofs.Common.{◌≡◌, take, string_bytes, map}
use Rattle.oauth2_adapters.specs.CommasInScopes.{spaced_byte}
use Rattle.oauth2_adapters.proofs.commas_in_scopes.spaces_for_commas.Given as goal

abbrev pub invariant-loop-b : goal.invariant-loop-b
invariant-loop-b l = string_bytes l.spaced ≡ map spaced_byte (take l.b-index l.text)
