use Rattle.std.proofs.Common.{◌≡◌, drop, map}
use Rattle.std.specs.List.{list_any}
use Rattle.oauth2_adapters.specs.OtherMediaTypes.{is_type}
use Rattle.oauth2_adapters.proofs.other_media_types.is_listed.Given as goal

abbrev pub invariant-loop-listed : goal.invariant-loop-listed
invariant-loop-listed l = list_any (is_type l.own) (map (λ k. k.now) (drop l.listed-index l.types)) ≡ list_any (is_type l.own) (map (λ k. k.now) l.types)
