use Rattle.std.proofs.Common.{rules, ◌≡◌, ◌∙◌, ◌==◌, map, string_bytes, ap, arith, length, lit<}
use Rattle.std.specs.List.{slice_split}
use Rattle.std.proofs.lemmas.List.{take_all}
use Rattle.std.proofs.lemmas.Iterator.Consumers.{map_from_collect}
use Rattle.std.proofs.lemmas.Iterator.Splits.{YieldsList-from_str_split}
use Rattle.oauth2_world.specs.Quotation.{quotation}
use Rattle.oauth2_results.specs.Json.{list_text}
use Rattle.oauth2_results.proofs.scopes.words_json.Goals as goal

pub returns : goal.returns
returns c =
    let words : map (λ w. w.now) c.in_ok-words.words.items ≡ slice_split (λ b. b == 32) c.args.text.now =
    rw c.in_ok-words.was at (map_from_collect _ c.collect.ensures.ran (YieldsList-from_str_split 32 c.args.text.now (lit< tt) c.split.ensures.text c.split.ensures.has_more c.split.ensures.pattern)) in
    let seen : c.as_slice-word-items.result.now ≡ c.in_ok-words.words.items = c.as_slice-word-items.ensures.value in
    let items : map string_bytes c.loop-word.items.items ≡ map quotation (map (λ w. w.now) c.in_ok-words.words.items) =
    c.loop-word.invariant ∙ ap (λ ws. map quotation (map (λ w. w.now) ws)) (take_all c.loop-word.word-index c.as_slice-word-items.result.now (omega arith) ∙ seen) in
    c.in_ok-list.ensures ∙ ap (λ xs. list_text (map string_bytes xs)) c.as_slice.ensures.value ∙ ap list_text (items ∙ ap (map quotation) words)
