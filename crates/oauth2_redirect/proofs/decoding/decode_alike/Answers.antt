use Rattle.std.proofs.Common.{◌≡◌, ◌∙◌, is_none, rules, sym}
use Rattle.oauth2_redirect.proofs.Escapes.{ends_as, shorter_second}
use Rattle.oauth2_redirect.proofs.decoding.decode_alike.Goals as goal

pub returns-in_default-split_decoded : goal.returns-in_default-split_decoded
returns-in_default-split_decoded c =
    shorter_second c.loop-byte.left.now c.loop-byte.other_left.now c.in-Some.rest.now c.in-Some.byte c.in-Some.ensures.value c.in_default-split_decoded.ensures.value ∙ sym c.loop-byte.invariant

pub returns : goal.returns
returns c =
    let is : c.is_none.result ≡ is_none c.split_decoded-2.result = search rules in
    is ∙ ends_as c.loop-byte.left.now c.loop-byte.other_left.now c.split_decoded-2.result c.in_default.ensures.value c.split_decoded-2.ensures.value ∙ sym c.loop-byte.invariant
