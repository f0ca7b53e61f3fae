use Rattle.std.proofs.Common.{◌≡◌, ◌<◌, length, get_or, map, sym, ap, ◌∙◌, arith, take_all}
use Rattle.std.proofs.lemmas.List.{length-set}
use Rattle.serde_json.specs.Data.{no_members}
use Rattle.oauth2_body_members.specs.Object.{put_each, entry_of}
use Rattle.oauth2_body_members.specs.private.Found.{found_entry}
use Rattle.oauth2_body_members.proofs.Finding.{one_copied, one_fewer}
use Rattle.oauth2_body_members.proofs.member.with_texts.Goals as goal

pub loop-index-preserved : goal.loop-index-preserved
loop-index-preserved c =
    let l = c.loop-index in
    let found = c.args.found.items in
    let n = l.index in
    let m = c.index_mut.result.now in
    let copy = c.copy_text.new.member in
    let there : n < length found = omega (arith, l.invariant.same_length) in
    let within : n < length l.list.items = omega (arith, l.invariant.same_length) in
    let is : get_or l.list.items n m ≡ m = sym c.index_mut.ensures.value in
    record {
      same_length = length-set l.list.items n copy ∙ l.invariant.same_length;
      copied = one_copied found l.list.items n m copy is within there l.invariant.left c.in_ok-copy_text.ensures l.invariant.copied;
      left = one_fewer found l.list.items n m copy is within there l.invariant.left;
    }

pub returns : goal.returns
returns c =
    let l = c.loop-index in
    let found = c.args.found.items in
    ap (λ es. put_each es no_members)
    (ap (map entry_of) (sym (take_all l.index l.list.items (omega (arith, l.invariant.same_length)))) ∙ l.invariant.copied ∙ ap (map found_entry) (take_all l.index found (omega (arith, l.invariant.same_length))))
