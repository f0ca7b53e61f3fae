use Rattle.std.proofs.Common.{◌≡◌, ◌-◌, ◌<◌, ◌||◌, length, Some, None, option_map, refl, sym, ap, ◌∙◌, arith}
use Rattle.std.specs.Prelude.{bytes_eq, codes}
use Rattle.json.specs.Json.{read_key, members, value}
use Rattle.json.proofs.Grammar.{read_key-shorter}
use Rattle.oauth2_adapters.specs.private.ErrorMembers.{is_told, told_in}
use Rattle.oauth2_adapters.proofs.ErrorTurns.{told_member, told_wrong_member, told_no_key, told_over, found_at_end}
use Rattle.oauth2_adapters.proofs.error_body.members_tell_error.Goals as goal

pub returns-in_default-key : goal.returns-in_default-key
returns-in_default-key c =
    let l = c.members in
    let closed : read_key l.reader ≡ Some (None, c.next_key.new.self) = c.in-Ok.ensures.value ∙ ap (λ o. Some (option_map (λ s. s.now) o, c.next_key.new.self)) c.in_default-key.is in
    found_at_end l.found _ _ (l.invariant.2 ∙ told_over l.found l.invariant.0 l.reader c.next_key.new.self l.invariant.1 closed)

pub returns-then-not-pass_value : goal.returns-then-not-pass_value
returns-then-not-pass_value c =
    let l = c.members in
    let named : read_key l.reader ≡ Some (Some c.in-Some.name.now, c.next_key.new.self) = c.in-Ok.ensures.value ∙ ap (λ o. Some (option_map (λ s. s.now) o, c.next_key.new.self)) c.in-Some.is in
    ap is_told l.invariant.2 ∙ told_wrong_member l.found l.invariant.0 c.in-Some.name.now l.reader c.next_key.new.self named c.if-not-pass_value.ensures

pub members-preserved-then-found : goal.members-preserved-then-found
members-preserved-then-found c =
    let l = c.members in
    let n = l.invariant.0 in
    let k = c.in-Some.name.now in
    let s = c.next_key.new.self in
    let r = c.pass_value.new.reader in
    let stands = c.if-not-pass_value.ensures in
    let named : read_key l.reader ≡ Some (Some k, s) = c.in-Ok.ensures.value ∙ ap (λ o. Some (option_map (λ b. b.now) o, s)) c.in-Some.is in
    let less = read_key-shorter l.reader (Some k) s named in
    let lesser : length r < length s = stands.2 in
    let same : l.found || bytes_eq k (codes "error") ≡ l.found = rw c.if-found.true refl in (
      n - 1,
      omega (arith, l.invariant.1),
      l.invariant.2 ∙ told_member l.found n k l.reader s r stands.0 (omega (arith, l.invariant.1)) named stands.1 stands.3 stands.4
          ∙ ap (λ f. told_in f (members (value 126) (n - 1) r)) same,
    )

pub members-preserved : goal.members-preserved
members-preserved c =
    let l = c.members in
    let n = l.invariant.0 in
    let k = c.in-Some.name.now in
    let s = c.next_key.new.self in
    let r = c.pass_value.new.reader in
    let stands = c.if-not-pass_value.ensures in
    let named : read_key l.reader ≡ Some (Some k, s) = c.in-Ok.ensures.value ∙ ap (λ o. Some (option_map (λ b. b.now) o, s)) c.in-Some.is in
    let less = read_key-shorter l.reader (Some k) s named in
    let lesser : length r < length s = stands.2 in
    let same : l.found || bytes_eq k (codes "error") ≡ c.eq-found.result = rw c.if-found.false (sym c.eq-found.ensures) in (
      n - 1,
      omega (arith, l.invariant.1),
      l.invariant.2 ∙ told_member l.found n k l.reader s r stands.0 (omega (arith, l.invariant.1)) named stands.1 stands.3 stands.4
          ∙ ap (λ f. told_in f (members (value 126) (n - 1) r)) same,
    )

pub returns : goal.returns
returns c =
    let l = c.members in
    ap is_told l.invariant.2 ∙ told_no_key l.found l.invariant.0 l.reader c.in_default.ensures.value
