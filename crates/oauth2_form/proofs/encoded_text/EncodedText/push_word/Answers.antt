use Rattle.std.proofs.Common.{◌++◌, ◌∷◌, [], ap, sym, ◌∙◌, arith, append_assoc}
use Rattle.std.proofs.lemmas.List.Elements.{All-from_get_or, All-cons}
use Rattle.oauth2_form.specs.Pairs.{IsByte}
use Rattle.oauth2_form.proofs.WrittenLemmas.{IsEncodedText-more, decode-more}
use Rattle.oauth2_form.proofs.encoded_text.EncodedText.push_word.Goals as goal

pub invariant_of-self-2 : goal.invariant_of-self-2
invariant_of-self-2 c =
    let bytes = All-cons IsByte 32 c.args.word.now (omega arith) (All-from_get_or IsByte c.args.word.now 0 (λ i _. omega (arith, c.type_inv.word i))) in
    IsEncodedText-more c.self.inside.text.items c.append_word.new.text.items (32 ∷ c.args.word.now) c.self.invariant bytes c.in_ok-append_word.ensures.ok

pub returns-clause-ok : goal.returns-clause-ok
returns-clause-ok c =
    let bytes = All-cons IsByte 32 c.args.word.now (omega arith) (All-from_get_or IsByte c.args.word.now 0 (λ i _. omega (arith, c.type_inv.word i))) in
    decode-more c.self.inside.text.items c.append_word.new.text.items (32 ∷ c.args.word.now) c.self.invariant bytes c.in_ok-append_word.ensures.ok
    ∙ ap (λ x. x ++ 32 ∷ c.args.word.now) c.self.view_is ∙ sym (append_assoc c.args.self.now (32 ∷ []) c.args.word.now)
