use Rattle.std.proofs.Common.{◌≡◌, ◌≢◌, suc, ◌++◌, ◌∷◌, [], length, ap, sym, ◌∙◌, arith, rules}
use Rattle.percent_encoding.specs.Percent.{percent_encode_byte}
use Rattle.form_urlencoded.specs.Form.{byte_serialize}
use Rattle.oauth2_form.proofs.FormEncodingLemmas.{serialize_byte-single, serialize_byte-escape, byte_written, nothing_left, IsPrefix_longer}
use Rattle.oauth2_form.proofs.form_encoding.append_encoded_bytes.Goals as goal

pub loop-byte-preserved-in_ok-append_escape : goal.loop-byte-preserved-in_ok-append_escape
loop-byte-preserved-in_ok-append_escape c =
    let cut : c.loop-byte.rest.now ≡ c.in-Some.field-0-0.now ∷ c.in-Some.tail.now = search rules in
    let zero : c.single_byte-single.result ≡ 0 = search rules in
    let one = serialize_byte-escape c.in-Some.field-0-0.now c.single_byte-single.result c.single_byte-single.ensures zero in
    let so_far = ap (λ x. c.loop-byte.out.items ++ byte_serialize x) (sym cut) ∙ c.loop-byte.invariant.0 in (
      byte_written c.loop-byte.out.items c.append_escape.new.out.items _ (percent_encode_byte c.in-Some.field-0-0.now) c.in-Some.field-0-0.now c.in-Some.tail.now one c.in_ok-append_escape.ensures.ok so_far,
      IsPrefix_longer c.args.out.now.items c.loop-byte.out.items c.append_escape.new.out.items c.loop-byte.invariant.1 c.append_escape.ensures.grows,
      search rules,
    )

pub loop-byte-preserved : goal.loop-byte-preserved
loop-byte-preserved c =
    let cut : c.loop-byte.rest.now ≡ c.in-Some.field-0-0.now ∷ c.in-Some.tail.now = search rules in
    let nonzero : c.single_byte-single.result ≢ 0 = search rules in
    let one = serialize_byte-single c.in-Some.field-0-0.now c.single_byte-single.result c.single_byte-single.ensures nonzero in
    let so_far = ap (λ x. c.loop-byte.out.items ++ byte_serialize x) (sym cut) ∙ c.loop-byte.invariant.0 in
    let shorter : length c.loop-byte.rest.now ≡ suc (length c.in-Some.tail.now) = ap length cut in
    let room = c.loop-byte.invariant.2 in (
      byte_written c.loop-byte.out.items c.push_reserved.new.self.items _ (c.single_byte-single.result ∷ []) c.in-Some.field-0-0.now c.in-Some.tail.now one c.push_reserved.ensures.items so_far,
      IsPrefix_longer c.args.out.now.items c.loop-byte.out.items c.push_reserved.new.self.items c.loop-byte.invariant.1 (c.single_byte-single.result ∷ [], c.push_reserved.ensures.items),
      omega (arith, room, shorter, c.push_reserved.ensures.len, c.push_reserved.ensures.capacity),
    )

pub returns-clause-ok : goal.returns-clause-ok
returns-clause-ok c =
    let none : length c.loop-byte.rest.now ≡ 0 = search rules in
    nothing_left c.loop-byte.out.items _ c.loop-byte.rest.now none c.loop-byte.invariant.0
