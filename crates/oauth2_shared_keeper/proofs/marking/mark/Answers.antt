use Rattle.std.proofs.Common.{◌≡◌, ◌+◌, true, false, [], ◌∷◌, ◌++◌, refl, sym, ◌∙◌, zero-add, arith}
use Rattle.oauth2_shared_token.specs.declared.renewal.Content.TheVariants as content
use Rattle.oauth2_shared_token.specs.declared.renewal.Learnt.TheVariants as learnt
use Rattle.oauth2_shared_keeper.specs.Call.{Load, Replace}
use Rattle.oauth2_shared_keeper.specs.private.Part.{marks_next, looks_again}
use Rattle.oauth2_shared_keeper.proofs.Runs.{store-append, one_load, one_replace}
use Rattle.oauth2_shared_keeper.proofs.Parts.{same_token, asked_taken, asked_open, looked_on, passed, passes_at, held_in, holds}
use Rattle.oauth2_shared_keeper.proofs.marking.mark.Goals as goal

pub into_token-seen-requires : goal.into_token-seen-requires
into_token-seen-requires g c = holds c.args.token c.args.renewal _ c.loop-left.invariant.content

pub into_token-unseen-requires : goal.into_token-unseen-requires
into_token-unseen-requires g c = holds c.args.token c.args.renewal _ c.loop-left.invariant.content

pub returns-then-is_done-clause-marking : goal.returns-then-is_done-clause-marking
returns-then-is_done-clause-marking g c =
    let e = c.replace-is_done.ensures.replace in
    let a = c.args in (
      Replace a.version (content.Marked a.token a.renewal) true ∷ [],
      one_replace g.S.TokenStore.loads g.S.TokenStore.replaces a.name.now a.store.now c.replace-is_done.new.store a.version (content.Marked a.token a.renewal) true (e.0, e.1, sym c.if-is_done.true ∙ e.2),
      (sym (same_token a.token c.into_token-token.result c.into_token-token.ensures), 0, omega arith, asked_taken a.renewal a.version a.token),
    )

pub loop-left-init : goal.loop-left-init
loop-left-init g c =
    let e = c.replace-is_done.ensures.replace in
    let a = c.args in
    record {
      ready = c.replace-is_done.ensures.ready;
      content = refl;
      so_far = (
        Replace a.version (content.Marked a.token a.renewal) false ∷ [],
        one_replace g.S.TokenStore.loads g.S.TokenStore.replaces a.name.now a.store.now c.replace-is_done.new.store a.version (content.Marked a.token a.renewal) false (e.0, e.1, sym c.if-is_done.false ∙ e.2),
        (0, zero-add a.loads, asked_open a.renewal a.version a.token),
      );
    }

pub returns-in-Taken-clause-marking : goal.returns-in-Taken-clause-marking
returns-in-Taken-clause-marking g c =
    let i = c.loop-left.invariant.so_far in
    let l = c.in-Taken.ensures.learnt in
    let a = c.args in
    let n = i.2.1 in (
      i.0 ++ Load l.0 ∷ [],
      store-append g.S.TokenStore.loads g.S.TokenStore.replaces a.name.now a.store.now c.loop-left.store c.look_for_mark.new.store i.0 (Load l.0 ∷ []) i.1 (one_load g.S.TokenStore.loads g.S.TokenStore.replaces a.name.now c.loop-left.store c.look_for_mark.new.store l.0 l.1),
      (sym (same_token a.token c.into_token-seen.result (held_in a.token a.renewal _ _ c.loop-left.invariant.content c.into_token-seen.ensures)), i.2.0 + 1, omega arith, looked_on a.renewal a.version a.token i.0 l.0 learnt.Taken i.2.0 l.2 i.2.2),
    )

pub returns-in-Lost-clause-marking : goal.returns-in-Lost-clause-marking
returns-in-Lost-clause-marking g c =
    let i = c.loop-left.invariant.so_far in
    let l = c.in-Lost.ensures.learnt in
    let a = c.args in
    let n = i.2.1 in
    let ends = passed a.renewal a.version a.token i.0 l.0 i.2.0 l.2 i.2.2 in (
      i.0 ++ Load l.0 ∷ [],
      store-append g.S.TokenStore.loads g.S.TokenStore.replaces a.name.now a.store.now c.loop-left.store c.look_for_mark.new.store i.0 (Load l.0 ∷ []) i.1 (one_load g.S.TokenStore.loads g.S.TokenStore.replaces a.name.now c.loop-left.store c.look_for_mark.new.store l.0 l.1),
      (i.2.0 + 1, omega arith, looked_on a.renewal a.version a.token i.0 l.0 learnt.Lost i.2.0 l.2 i.2.2, ends.0, ends.1),
    )

pub loop-left-preserved : goal.loop-left-preserved
loop-left-preserved g c =
    let i = c.loop-left.invariant.so_far in
    let l = c.in-Open.ensures.learnt in
    let a = c.args in
    let n = i.2.1 in
    record {
      ready = c.look_for_mark.ensures.ready;
      content = c.loop-left.invariant.content;
      so_far = (
        i.0 ++ Load l.0 ∷ [],
        store-append g.S.TokenStore.loads g.S.TokenStore.replaces a.name.now a.store.now c.loop-left.store c.look_for_mark.new.store i.0 (Load l.0 ∷ []) i.1 (one_load g.S.TokenStore.loads g.S.TokenStore.replaces a.name.now c.loop-left.store c.look_for_mark.new.store l.0 l.1),
        (i.2.0 + 1, omega arith, looked_on a.renewal a.version a.token i.0 l.0 learnt.Open i.2.0 l.2 i.2.2),
      );
    }

pub returns-clause-marking : goal.returns-clause-marking
returns-clause-marking g c =
    let i = c.loop-left.invariant.so_far in
    let a = c.args in
    let n = i.2.1 in
    let all : i.2.0 ≡ a.loads = omega arith in (
      i.0,
      i.1,
      (sym (same_token a.token c.into_token-unseen.result (held_in a.token a.renewal _ _ c.loop-left.invariant.content c.into_token-unseen.ensures)), passes_at a.renewal (marks_next a.version a.token) (looks_again a.version a.token) i.0 i.2.0 a.loads 1 1 all refl i.2.2),
    )
