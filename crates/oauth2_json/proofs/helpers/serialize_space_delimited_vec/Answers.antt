use Rattle.std.proofs.Common.{◌≡◌, ◌↔◌, Some, Ok, IfSome, IsTrue, ◌∙◌, map, ap}
use Rattle.std.proofs.lemmas.Result.{IfOk-weaker}
use Rattle.serde_json.specs.Data.{string}
use Rattle.serde_json.specs.View.{view}
use Rattle.oauth2_json.specs.Helpers.{nullable}
use Rattle.oauth2_json.specs.Values.{words_reading, text}
use Rattle.oauth2_json.specs.Words.{joined_words, are_words}
use Rattle.oauth2_json.proofs.Words.{words_back}
use Rattle.oauth2_json.proofs.helpers.serialize_space_delimited_vec.Goals as goal

pub returns-in-Some-clause-reads_back : goal.returns-in-Some-clause-reads_back
returns-in-Some-clause-reads_back g c =
    let ps = map g.T.AsStr.text c.in-Some.words.items in
    rw c.in-Some.is (IfOk-weaker c.words_text.result
    (λ v. view v ≡ string (joined_words (map g.T.AsStr.text c.as_slice.result.now)))
    (λ v. (nullable (words_reading text) (view v) ≡ Ok (Some ps)) ↔ IfSome (Some ps) (λ qs. IsTrue (are_words qs)))
    (λ v e. words_back (Some ps) (view v) (e ∙ ap (λ xs. string (joined_words (map g.T.AsStr.text xs))) c.as_slice.ensures.value))
    c.words_text.ensures)
