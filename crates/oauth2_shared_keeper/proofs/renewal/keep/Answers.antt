use Rattle.std.proofs.Common.{◌≡◌, ◌≤◌, ◌+◌, true, false, [], ◌∷◌, ◌++◌, refl, sym, ◌∙◌, arith}
use Rattle.oauth2_shared_token.specs.declared.renewal.Content.TheVariants as content
use Rattle.oauth2_shared_token.specs.declared.renewal.Step.TheVariants as step
use Rattle.oauth2_shared_keeper.specs.Call.{Replace}
use Rattle.oauth2_shared_keeper.specs.private.Part.{keeps_next, keeps_again}
use Rattle.oauth2_shared_keeper.proofs.Runs.{store-append, one_replace, passes-append}
use Rattle.oauth2_shared_keeper.proofs.Parts.{kept, unkept, kept_not, kept_not_again, unsent_more, passes_at}
use Rattle.oauth2_shared_keeper.proofs.renewal.keep.Goals as goal

pub returns-then-is_kept-clause-renewal : goal.returns-then-is_kept-clause-renewal
returns-then-is_kept-clause-renewal g c =
    let e = c.replace-is_kept.ensures.replace in
    let a = c.args in (
      Replace (a.version + 1) (content.AtRest a.new) true ∷ [],
      one_replace g.S.TokenStore.loads g.S.TokenStore.replaces a.name.now a.store.now c.replace-is_kept.new.store (a.version + 1) (content.AtRest a.new) true (e.0, e.1, sym c.if-is_kept.true ∙ e.2),
      refl,
      λ n loads. kept n a.version a.new c.into_token-kept.result loads (a.repeats + 1) 0 [] (step.Keep a.version a.new) refl
          (record { asks = refl; loads_are = refl; replacements_are = refl; unsent = refl })
          (omega arith) c.into_token-kept.ensures,
    )

pub loop-left-init : goal.loop-left-init
loop-left-init g c =
    let e = c.replace-is_kept.ensures.replace in
    let a = c.args in
    record {
      ready = c.replace-is_kept.ensures.ready;
      so_far = (
        Replace (a.version + 1) (content.AtRest a.new) false ∷ [],
        one_replace g.S.TokenStore.loads g.S.TokenStore.replaces a.name.now a.store.now c.replace-is_kept.new.store (a.version + 1) (content.AtRest a.new) false (e.0, e.1, sym c.if-is_kept.false ∙ e.2),
        (1, omega arith, λ n. kept_not n a.version a.new),
      );
    }

pub returns-then-is_kept_now-clause-renewal : goal.returns-then-is_kept_now-clause-renewal
returns-then-is_kept_now-clause-renewal g c =
    let e = c.replace-is_kept_now.ensures.replace in
    let i = c.loop-left.invariant.so_far in
    let a = c.args in
    let u = i.2.1 in
    let last : i.2.0 + 1 ≤ a.repeats + 1 = omega arith in (
      i.0 ++ Replace (a.version + 1) (content.AtRest a.new) true ∷ [],
      store-append g.S.TokenStore.loads g.S.TokenStore.replaces a.name.now a.store.now c.loop-left.store c.replace-is_kept_now.new.store i.0 (Replace (a.version + 1) (content.AtRest a.new) true ∷ []) i.1
          (one_replace g.S.TokenStore.loads g.S.TokenStore.replaces a.name.now c.loop-left.store c.replace-is_kept_now.new.store (a.version + 1) (content.AtRest a.new) true (e.0, e.1, sym c.if-is_kept_now.true ∙ e.2)),
      unsent_more i.0 (a.version + 1) (content.AtRest a.new) true (i.2.2 0).unsent,
      λ n loads. kept n a.version a.new c.into_token-kept_now.result loads (a.repeats + 1) i.2.0 i.0 step.Repeat refl (i.2.2 n) last c.into_token-kept_now.ensures,
    )

pub loop-left-preserved : goal.loop-left-preserved
loop-left-preserved g c =
    let e = c.replace-is_kept_now.ensures.replace in
    let i = c.loop-left.invariant.so_far in
    let a = c.args in
    let u = i.2.1 in
    record {
      ready = c.replace-is_kept_now.ensures.ready;
      so_far = (
        i.0 ++ Replace (a.version + 1) (content.AtRest a.new) false ∷ [],
        store-append g.S.TokenStore.loads g.S.TokenStore.replaces a.name.now a.store.now c.loop-left.store c.replace-is_kept_now.new.store i.0 (Replace (a.version + 1) (content.AtRest a.new) false ∷ []) i.1
            (one_replace g.S.TokenStore.loads g.S.TokenStore.replaces a.name.now c.loop-left.store c.replace-is_kept_now.new.store (a.version + 1) (content.AtRest a.new) false (e.0, e.1, sym c.if-is_kept_now.false ∙ e.2)),
        (
          i.2.0 + 1,
          omega arith,
          λ n. passes-append n (keeps_next a.version a.new) (keeps_again a.version a.new) (keeps_again a.version a.new) i.0 (Replace (a.version + 1) (content.AtRest a.new) false ∷ []) 0 0 i.2.0 1 (i.2.2 n) (kept_not_again n a.version a.new),
        ),
      );
    }

pub returns-clause-renewal : goal.returns-clause-renewal
returns-clause-renewal g c =
    let i = c.loop-left.invariant.so_far in
    let a = c.args in
    let u = i.2.1 in
    let all : i.2.0 ≡ a.repeats + 1 = omega arith in (
      i.0,
      i.1,
      (i.2.2 0).unsent,
      λ n loads. unkept n a.version a.new c.into_token-unkept.result loads (a.repeats + 1) i.0
          (passes_at n (keeps_next a.version a.new) (keeps_again a.version a.new) i.0 0 0 i.2.0 (a.repeats + 1) refl all (i.2.2 n)) c.into_token-unkept.ensures,
    )
