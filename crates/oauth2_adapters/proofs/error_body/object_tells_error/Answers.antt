use Rattle.std.proofs.Common.{sym, ◌∙◌}
use Rattle.oauth2_adapters.proofs.ErrorTurns.{not_opened, none_told, told_before, alone}
use Rattle.oauth2_adapters.proofs.error_body.object_tells_error.Goals as goal

pub returns-then-not-opens_object : goal.returns-then-not-opens_object
returns-then-not-opens_object c = sym (not_opened c.args.reader.now (sym c.if-not-opens_object.ensures.found))

pub returns-then-not-members_tell_error : goal.returns-then-not-members_tell_error
returns-then-not-members_tell_error c =
    sym (none_told c.args.reader.now c.opens_object.new.reader c.if-not-opens_object.ensures.rest c.if-not-members_tell_error.ensures)

pub returns : goal.returns
returns c =
    let told = told_before c.args.reader.now c.opens_object.new.reader c.members_tell_error.new.reader c.if-not-opens_object.ensures.rest c.if-not-members_tell_error.ensures in
    alone c.members_tell_error.new.reader c.next.new.self c.next.result c.is_none.result c.next.ensures.value c.is_none.ensures ∙ sym told
