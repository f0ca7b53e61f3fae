use Rattle.std.proofs.Common.{◌≡◌, ◌≢◌, ◌∷◌, [], length, ap, sym, subst, rules}
use Rattle.form_urlencoded.specs.Form.{byte_serialize}
use Rattle.oauth2_form.specs.Length.{usize_len}
use Rattle.oauth2_json.specs.Words.{joined_words}
use Rattle.oauth2_requests.proofs.QueryLenLaws.{joined_some}
use Rattle.oauth2_requests.proofs.query_len.joined_len.Goals as goal

pub returns-clause-some : goal.returns-clause-some
returns-clause-some c =
    let cut : c.args.scopes.now ≡ c.in_ok-first.first.now ∷ c.in_ok-first.others.now = search rules in
    let some : length c.in_ok-first.first.now ≡ 0 → length c.in_ok-first.others.now ≢ 0 = λ first others. search (rules, first, others) in
    let counts : c.with_further.result ≡ usize_len (byte_serialize (joined_words (c.in_ok-first.first.now ∷ c.in_ok-first.others.now))) = search (rules, c.with_further.ensures c.in_ok-first.first.now) in
    subst (λ scopes. (joined_words scopes ≢ []) × (c.with_further.result ≡ usize_len (byte_serialize (joined_words scopes)))) (sym cut) (joined_some c.in_ok-first.first.now c.in_ok-first.others.now some, counts)
