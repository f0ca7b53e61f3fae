use Rattle.std.proofs.Common.{option_map, sym, ap, ◌∙◌}
use Rattle.oauth2_adapters.proofs.RewritingTurns.{not_opened, finished, unfinished}
use Rattle.oauth2_adapters.proofs.rewriting.rewrite_members.Goals as goal

pub returns-then-not-opens_object-clause-value : goal.returns-then-not-opens_object-clause-value
returns-then-not-opens_object-clause-value g c = sym (not_opened (g.M.MemberChange.change c.args.change.now) c.args.reader.now (sym c.if-not-opens_object.ensures.found))

pub returns-in-Ok-Some-clause-value : goal.returns-in-Ok-Some-clause-value
returns-in-Ok-Some-clause-value g c =
    c.text_if_changed.ensures
    ∙ sym (finished (g.M.MemberChange.change c.args.change.now) c.args.reader.now c.opens_object.new.reader c.in_ok-writer.writer.tokens c.write_members.new.reader c.write_members.new.writer.tokens c.in-Ok-Some.changed c.if-not-opens_object.ensures.rest c.in_ok-writer.ensures.1 (c.in-Ok-Some.ensures.value ∙ ap (option_map (λ b. ((b, c.write_members.new.writer.tokens), c.write_members.new.reader))) c.in-Ok-Some.field-0-is))

pub returns-in-Ok-None-clause-value : goal.returns-in-Ok-None-clause-value
returns-in-Ok-None-clause-value g c =
    sym (unfinished (g.M.MemberChange.change c.args.change.now) c.args.reader.now c.opens_object.new.reader c.in_ok-writer.writer.tokens c.if-not-opens_object.ensures.rest c.in_ok-writer.ensures.1 (c.in-Ok-None.ensures.value ∙ ap (option_map (λ b. ((b, c.write_members.new.writer.tokens), c.write_members.new.reader))) c.in-Ok-None.field-0-is))
