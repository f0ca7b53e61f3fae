use Rattle.std.proofs.Common.{◌≡◌, drop, map}
use Rattle.std.specs.Prelude.{bytes_eq}
use Rattle.std.specs.List.{list_any}
use Rattle.oauth2_adapters.proofs.numbers_as_texts.is_named.Given as goal

abbrev pub invariant-loop-own : goal.invariant-loop-own
invariant-loop-own l = list_any (λ n. bytes_eq n l.name) (map (λ k. k.now) (drop l.own-index l.names)) ≡ list_any (λ n. bytes_eq n l.name) (map (λ k. k.now) l.names)
