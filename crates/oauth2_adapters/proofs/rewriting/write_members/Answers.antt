use Rattle.std.proofs.Common.{◌≡◌, ◌-◌, ◌<◌, ◌||◌, length, Some, None, option_map, subst, refl, sym, ap, ◌∙◌, arith}
use Rattle.std.specs.Prelude.{is_some}
use Rattle.json.specs.Json.{read_key, value}
use Rattle.json.proofs.Grammar.{read_key-shorter}
use Rattle.oauth2_adapters.specs.private.Written.{WritesMember}
use Rattle.oauth2_adapters.proofs.RewritingTurns.{turn, no_member, no_key, brace_written}
use Rattle.oauth2_adapters.proofs.rewriting.write_members.Goals as goal

pub returns-in_default-next-clause-value : goal.returns-in_default-next-clause-value
returns-in_default-next-clause-value g c =
    let l = c.members in
    let r = c.next_key.new.self in
    let closed : read_key l.reader ≡ Some (None, r) = c.in-Ok.ensures.value ∙ ap (λ o. Some (option_map (λ b. b.now) o, r)) c.in_default-next.is in
    l.invariant.2 ∙ brace_written (g.M.MemberChange.change c.args.change.now) l.changed l.writer.tokens l.invariant.0 l.reader r l.invariant.1 closed
    ∙ ap (λ ts. Some ((l.changed, ts), r)) (sym c.in_ok-close.ensures.tokens)

pub members-preserved-then-changed : goal.members-preserved-then-changed
members-preserved-then-changed g c =
    let l = c.members in
    let f = g.M.MemberChange.change c.args.change.now in
    let n = l.invariant.0 in
    let k = c.in-Some.name.now in
    let s = c.next_key.new.self in
    let r = c.write_member.new.reader in
    let w = subst (λ o. WritesMember (f k) k s r l.writer c.write_member.new.writer o) c.in-Ok-Some.field-0-is c.in-Ok-Some.ensures in
    let named : read_key l.reader ≡ Some (Some k, s) = c.in-Ok.ensures.value ∙ ap (λ o. Some (option_map (λ b. b.now) o, s)) c.in-Some.is in
    let less = read_key-shorter l.reader (Some k) s named in
    let lesser : length r < length s = w.2 in
    let flag : l.changed || is_some (f k w.0) ≡ l.changed = rw c.if-changed.true refl in (
      n - 1,
      omega (arith, l.invariant.1),
      l.invariant.2 ∙ turn f l.changed l.changed l.writer.tokens c.write_member.new.writer.tokens n k l.reader s r w.0 (omega (arith, l.invariant.1)) named w.1 flag w.4,
      w.5 ∙ l.invariant.3,
    )

pub members-preserved : goal.members-preserved
members-preserved g c =
    let l = c.members in
    let f = g.M.MemberChange.change c.args.change.now in
    let n = l.invariant.0 in
    let k = c.in-Some.name.now in
    let s = c.next_key.new.self in
    let r = c.write_member.new.reader in
    let w = subst (λ o. WritesMember (f k) k s r l.writer c.write_member.new.writer o) c.in-Ok-Some.field-0-is c.in-Ok-Some.ensures in
    let named : read_key l.reader ≡ Some (Some k, s) = c.in-Ok.ensures.value ∙ ap (λ o. Some (option_map (λ b. b.now) o, s)) c.in-Some.is in
    let less = read_key-shorter l.reader (Some k) s named in
    let lesser : length r < length s = w.2 in
    let flag : l.changed || is_some (f k w.0) ≡ c.in-Ok-Some.changes = rw c.if-changed.false (sym w.3) in (
      n - 1,
      omega (arith, l.invariant.1),
      l.invariant.2 ∙ turn f l.changed c.in-Ok-Some.changes l.writer.tokens c.write_member.new.writer.tokens n k l.reader s r w.0 (omega (arith, l.invariant.1)) named w.1 flag w.4,
      w.5 ∙ l.invariant.3,
    )

pub returns-in-Ok-None-clause-value : goal.returns-in-Ok-None-clause-value
returns-in-Ok-None-clause-value g c =
    let l = c.members in
    let s = c.next_key.new.self in
    let named : read_key l.reader ≡ Some (Some c.in-Some.name.now, s) = c.in-Ok.ensures.value ∙ ap (λ o. Some (option_map (λ b. b.now) o, s)) c.in-Some.is in
    let f = g.M.MemberChange.change c.args.change.now in
    let k = c.in-Some.name.now in
    let none : value 126 s ≡ None = subst (λ o. WritesMember (f k) k s c.write_member.new.reader l.writer c.write_member.new.writer o) c.in-Ok-None.field-0-is c.in-Ok-None.ensures in
    l.invariant.2 ∙ no_member (g.M.MemberChange.change c.args.change.now) l.changed l.writer.tokens l.invariant.0 c.in-Some.name.now l.reader s named none

pub returns-clause-value : goal.returns-clause-value
returns-clause-value g c =
    let l = c.members in
    l.invariant.2 ∙ no_key (g.M.MemberChange.change c.args.change.now) l.changed l.writer.tokens l.invariant.0 l.reader c.in_default.ensures.value
