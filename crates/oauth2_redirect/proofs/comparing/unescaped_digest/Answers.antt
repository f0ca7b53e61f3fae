use Rattle.std.proofs.Common.{◌∷◌, [], ◌++◌, Some, append_assoc, append-nil, refl, sym, ap, ◌∙◌}
use Rattle.percent_encoding.specs.Percent.{percent_decode}
use Rattle.percent_encoding.specs.Iter.{decoded_bytes}
use Rattle.oauth2_redirect.proofs.Visible.{visible-append, unseen-within}
use Rattle.oauth2_redirect.proofs.comparing.unescaped_digest.Goals as goal

pub returns-then-not-is_ascii_graphic : goal.returns-then-not-is_ascii_graphic
returns-then-not-is_ascii_graphic c =
    let bytes = c.loop-byte.invariant.2 ∙ ap (λ left. c.loop-byte.yielded ++ left) c.in-Some.ensures.steps in
    let unseen = sym c.is_ascii_graphic.ensures.value ∙ c.if-not-is_ascii_graphic.true in
    rw (unseen-within (percent_decode c.args.encoded.now) c.loop-byte.yielded c.in-Some.byte (decoded_bytes c.next.new.self) bytes unseen) refl

pub loop-byte-preserved : goal.loop-byte-preserved
loop-byte-preserved c =
    let seen = sym c.is_ascii_graphic.ensures.value ∙ c.if-not-is_ascii_graphic.false in (
      c.update.ensures c.loop-byte.yielded c.loop-byte.invariant.0,
      visible-append c.loop-byte.yielded c.in-Some.byte c.loop-byte.invariant.1 seen,
      c.loop-byte.invariant.2 ∙ ap (λ left. c.loop-byte.yielded ++ left) c.in-Some.ensures.steps ∙ sym (append_assoc c.loop-byte.yielded (c.in-Some.byte ∷ []) (decoded_bytes c.next.new.self)),
    )

pub returns : goal.returns
returns c =
    let bytes = c.loop-byte.invariant.2 ∙ ap (λ left. c.loop-byte.yielded ++ left) c.in-None.ensures.steps.0 ∙ append-nil c.loop-byte.yielded in
    rw (bytes, c.loop-byte.invariant.1) (ap Some (c.finalize.ensures c.loop-byte.yielded c.loop-byte.invariant.0))
