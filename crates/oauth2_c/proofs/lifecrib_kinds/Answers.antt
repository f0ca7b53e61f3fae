use Rattle.std.proofs.Common.{◌≡◌, ◌∙◌, length, ap}
use Rattle.oauth2_results.specs.Words.{kinds_text}
use Rattle.oauth2_c.proofs.lifecrib_kinds.Goals as goal

pub returns : goal.returns
returns c =
    let text : c.as_bytes.result.now ≡ kinds_text = c.as_bytes.ensures.value ∙ c.kinds_text.ensures.text in
    (c.put.ensures.count ∙ ap length text, rw text at c.put.ensures.put)
