use Rattle.std.proofs.Common.{◌≡◌, ◌++◌, ◌∷◌, [], ap, sym, ◌∙◌, rules, append_assoc}
use Rattle.form_urlencoded.specs.Form.{byte_serialize}
use Rattle.form_urlencoded.proofs.FormLemmas.{byte_serialize-cons}
use Rattle.oauth2_form.proofs.encoded_text.append_word.Goals as goal

pub returns-clause-ok : goal.returns-clause-ok
returns-clause-ok c =
    let marked : c.push.new.self.items ≡ c.args.text.now.items ++ 43 ∷ [] = search rules in
    let written : c.append_encoded_text.new.out.items ≡ c.push.new.self.items ++ byte_serialize c.args.word.now = search rules in
    written ∙ ap (λ x. x ++ byte_serialize c.args.word.now) marked
    ∙ append_assoc c.args.text.now.items (43 ∷ []) (byte_serialize c.args.word.now)
    ∙ ap (λ x. c.args.text.now.items ++ x) (sym (byte_serialize-cons 32 c.args.word.now))
