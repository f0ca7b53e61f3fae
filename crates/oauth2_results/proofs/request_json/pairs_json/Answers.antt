use Rattle.std.proofs.Common.{◌∙◌, map, string_bytes, ap, arith}
use Rattle.std.proofs.lemmas.List.{take_all}
use Rattle.oauth2_wire.specs.ServerView.{pair_texts}
use Rattle.oauth2_results.specs.Json.{list_text, pair_json}
use Rattle.oauth2_results.proofs.request_json.pairs_json.Goals as goal

pub returns : goal.returns
returns c =
    c.in_ok-json.ensures
    ∙ ap (λ items. list_text (map string_bytes items)) c.as_slice.ensures.value
    ∙ ap list_text (c.loop-name.invariant ∙ ap (λ ps. map pair_json (map pair_texts ps)) (take_all c.loop-name.name-index c.args.pairs.now (omega arith)))
