use Rattle.std.proofs.Common.{◌≡◌, ◌+◌, ◌<◌, ◌++◌, length, take, drop, set, get_or, map, option_map, sym, ap, ◌∙◌, arith, append-nil}
use Rattle.std.proofs.lemmas.List.{length-set}
use Rattle.std.specs.Option.{option_or}
use Rattle.serde_json.specs.View.{view}
use Rattle.oauth2_body_members.specs.Object.{entry_of, list_members}
use Rattle.oauth2_body_members.specs.private.Taken.{blank_at}
use Rattle.oauth2_body_members.proofs.Taking.{blanked, last_value, at_place, one_more, one_later, last_value-is, members_in-blanked, all_looked_at}
use Rattle.oauth2_body_members.proofs.member.take.Goals as goal

pub loop-index-preserved : goal.loop-index-preserved
loop-index-preserved c =
    let l = c.loop-index in
    let old = c.args.list.now.items in
    let k = c.args.name.now in
    let n = l.index in
    let m = c.index_mut.result.now in
    let within : n < length old = omega (arith, l.invariant.0) in
    let held : get_or old n m ≡ m = sym (c.index_mut.ensures.value ∙ ap (λ xs. get_or xs n m) l.invariant.1 ∙ at_place k old n m within) in
    let left : c.take_value.new.member ≡ blank_at k m = c.take_value.ensures.left in
    let now : set l.list.items n c.take_value.new.member ≡ blanked k (take (n + 1) old) ++ drop (n + 1) old =
    ap (λ x. set l.list.items n x) left ∙ ap (λ xs. set xs n (blank_at k m)) l.invariant.1 ∙ one_more k old n m held within in
    let size : length (set l.list.items n c.take_value.new.member) ≡ length old = length-set l.list.items n c.take_value.new.member ∙ l.invariant.0 in
    let last : option_map view c.take_value.new.found ≡ last_value k (map entry_of (take (n + 1) old)) =
    c.take_value.ensures.found ∙ ap (option_or _) l.invariant.2 ∙ sym (one_later k old n m held within) in
    (size, now, last)

pub returns-clause-found : goal.returns-clause-found
returns-clause-found c =
    let l = c.loop-index in
    let all = all_looked_at c.args.name.now c.args.list.now.items l.index (omega (arith, l.invariant.0)) in
    l.invariant.2 ∙ ap (λ ms. last_value c.args.name.now (map entry_of ms)) all.0 ∙ last_value-is c.args.name.now c.args.list.now.items

pub returns-clause-rest : goal.returns-clause-rest
returns-clause-rest c =
    let l = c.loop-index in
    let k = c.args.name.now in
    let all = all_looked_at k c.args.list.now.items l.index (omega (arith, l.invariant.0)) in
    ap list_members (l.invariant.1 ∙ ap (λ ms. blanked k ms ++ drop l.index c.args.list.now.items) all.0 ∙ ap (λ ms. blanked k c.args.list.now.items ++ ms) all.1 ∙ append-nil (blanked k c.args.list.now.items))
    ∙ members_in-blanked k c.args.list.now.items
