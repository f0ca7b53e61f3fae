use Rattle.std.proofs.Common.{◌≡◌, ℕ, List, take, ◌++◌}
use Rattle.form_urlencoded.specs.Form.{byte_serialize}
use Rattle.oauth2_form.specs.Length.{usize_len}
use Rattle.oauth2_requests.proofs.QueryLenLaws.{further_words}
use Rattle.oauth2_requests.proofs.query_len.with_further.Given as goal

abbrev pub invariant-loop-word : goal.invariant-loop-word
invariant-loop-word l = (text : List ℕ) → l.initial.len ≡ usize_len (byte_serialize text) → l.len ≡ usize_len (byte_serialize (text ++ further_words (take l.word-index l.words)))
