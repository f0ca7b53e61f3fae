use Rattle.std.proofs.Common.{◌≡◌, ◌∙◌, ◌+◌, ◌-◌, ◌^◌, ◌++◌, ◌∷◌, [], take, min, ap, sym, arith, rules}
use Rattle.std.proofs.lemmas.Grind.{common_steps}
use Rattle.form_urlencoded.specs.Form.{byte_serialize}
use Rattle.oauth2_form.specs.Length.{usize_len}
use Rattle.oauth2_requests.proofs.QueryLenLaws.{further_words, usize_len-word}
use Rattle.oauth2_requests.proofs.query_len.with_further.Goals as goal

pub loop-word-preserved : goal.loop-word-preserved
loop-word-preserved c = λ text start.
    let done = take c.loop-word.word-index c.args.words.now in
    let longer : take (c.loop-word.word-index + 1) c.args.words.now ≡ done ++ c.as_str.result.now ∷ [] = grind (arith, common_steps) in
    let spaced = c.saturating_add.ensures ∙ ap (λ n. min (n + 1) (2 ^ 64 - 1)) (c.loop-word.invariant text start) in
    c.saturating_add-len.ensures ∙ ap (λ n. min (n + c.encoded_len.result) (2 ^ 64 - 1)) spaced
    ∙ ap (λ n. min (min (usize_len (byte_serialize (text ++ further_words done)) + 1) (2 ^ 64 - 1) + n) (2 ^ 64 - 1)) c.encoded_len.ensures
    ∙ usize_len-word text done c.as_str.result.now
    ∙ ap (λ words. usize_len (byte_serialize (text ++ further_words words))) (sym longer)
