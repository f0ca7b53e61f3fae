use Rattle.std.proofs.Common.{◌≡◌, Err, sym, ap, subst, take, length-take, arith}
use Rattle.std.proofs.lemmas.Result.{err_from_is_err_and}
use Rattle.http_header.specs.FieldName.{IsFieldName}
use Rattle.http_header.specs.FieldValue.{IsFieldValue}
use Rattle.http_header.specs.HeaderMap.{RefusesAppend}
use Rattle.oauth2_http1.specs.declared.fault.ReplyFault.TheVariants as Fault
use Rattle.oauth2_http1.proofs.HeaderRoom.{header_at, has_room}
use Rattle.oauth2_http1.proofs.reply.header_map.Goals as goal

pub returns-in_err-name-clause-fields : goal.returns-in_err-name-clause-fields
returns-in_err-name-clause-fields c =
    let p = err_from_is_err_and c.from_residual.result c.from_residual.ensures.1 in
    rw (p.1, p.2) (λ is all few.
    let same : c.in_err-name.field-0.0 ≡ Fault.Fields = cc in
    let here = header_at c.args.input.now c.args.spans.now c.loop-span.span-index _ c.loop-span-test.true all in
    c.in_err-name.ensures.fields (ap Err same) (subst IsFieldName (sym c.of.ensures) here.0))

pub returns-in_err-value-clause-fields : goal.returns-in_err-value-clause-fields
returns-in_err-value-clause-fields c =
    let p = err_from_is_err_and c.from_residual-in_err-value.result c.from_residual-in_err-value.ensures.1 in
    rw (p.1, p.2) (λ is all few.
    let same : c.in_err-value.field-0.0 ≡ Fault.Fields = cc in
    let here = header_at c.args.input.now c.args.spans.now c.loop-span.span-index _ c.loop-span-test.true all in
    c.in_err-value.ensures.fields (ap Err same) (subst IsFieldValue (sym c.of-in-loop-span.ensures) here.1))

pub returns-in_err-add_field-clause-fields : goal.returns-in_err-add_field-clause-fields
returns-in_err-add_field-clause-fields c =
    let p = err_from_is_err_and c.from_residual-in_err-add_field.result c.from_residual-in_err-add_field.ensures.1 in
    rw (p.1, p.2) (λ is all few.
    let same : c.in_err-add_field.field-0.0 ≡ Fault.Fields = cc in
    has_room c.args.input.now (take c.loop-span.span-index c.args.spans.now) c.in_ok-name.name (omega (arith, length-take c.loop-span.span-index c.args.spans.now, few))
    (subst (λ m. RefusesAppend m c.in_ok-name.name) c.loop-span.invariant (c.in_err-add_field.ensures.fields (ap Err same))))
