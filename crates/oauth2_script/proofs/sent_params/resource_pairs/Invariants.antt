use Rattle.std.proofs.Common.{◌≡◌, map, take, string_bytes}
use Rattle.oauth2_script.specs.Sent.{resource_pairs}
use Rattle.oauth2_script.proofs.sent_params.resource_pairs.Given as goal

abbrev pub invariant-loop-uri : goal.invariant-loop-uri
invariant-loop-uri l =
    map (λ p. (string_bytes p.0, string_bytes p.1)) l.pairs.items ≡ resource_pairs (take l.uri-index l.uris)
