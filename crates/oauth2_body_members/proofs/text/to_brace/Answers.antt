use Rattle.std.proofs.Common.{◌≡◌, ◌-◌, ◌<◌, ◌||◌, false, length, map, Some, None, option_map, subst, refl, sym, ap, ◌∙◌, arith}
use Rattle.std.proofs.lemmas.Result.{err_from_is_err_and}
use Rattle.json.specs.Json.{read_key, value}
use Rattle.json.proofs.Grammar.{read_key-shorter}
use Rattle.serde_json.specs.Data.{no_members, put}
use Rattle.serde_json.specs.Read.{of_json, converted}
use Rattle.oauth2_body_members.specs.Object.{has_name, Keeps}
use Rattle.oauth2_body_members.specs.private.Found.{found_value, found_members}
use Rattle.oauth2_body_members.specs.private.Texts.{or_not_json}
use Rattle.oauth2_body_members.proofs.Conversions.{or_none}
use Rattle.oauth2_body_members.proofs.Keeping.{keeps_put, keeps_past, keeps_none, passed, passed_none}
use Rattle.oauth2_body_members.proofs.Finding.{found_members-push}
use Rattle.oauth2_body_members.proofs.Turns.{member_read, member_refused, key_refused, members_over, refused_all}
use Rattle.oauth2_body_members.proofs.text.to_brace.Goals as goal

pub members-init : goal.members-init
members-init c =
    (length c.args.reader.now, omega arith, no_members, refl, keeps_none (map (λ k. k.now) c.args.names.now) c.args.keeps_others (found_members c.in_ok-list.list.items) (ap found_members c.in_ok-list.ensures.items))

pub returns-in_err-place : goal.returns-in_err-place
returns-in_err-place c =
    let l = c.members in
    let p = err_from_is_err_and c.from_residual-in_err-place.result c.from_residual-in_err-place.ensures.1 in
    rw (p.1, p.2) (refused_all c.in_err-place.field-0.0 (read_key l.reader) _ c.in_err-place.ensures (λ e. l.invariant.3 ∙ key_refused (value 126) l.invariant.2 l.invariant.0 l.reader e))

pub returns-in_err-member : goal.returns-in_err-member
returns-in_err-member c =
    let l = c.members in
    let k = c.in-Some.name.now in
    let s = c.next_name.new.reader in
    let named : read_key l.reader ≡ Some (Some k, s) = or_none _ _ c.in_ok-place.ensures ∙ ap (λ o. Some (option_map (λ b. b.1.now) o, s)) c.in-Some.is in
    let p = err_from_is_err_and c.from_residual-in_err-member.result c.from_residual-in_err-member.ensures.1 in
    rw (p.1, p.2) (refused_all c.in_err-member.field-0.0 (converted of_json (value 126 s)) _ c.in_err-member.ensures.read (λ e. l.invariant.3 ∙ member_refused (value 126) l.invariant.2 l.invariant.0 k l.reader s named e))

pub members-preserved-in-Continue-branch-5 : goal.members-preserved-in-Continue-branch-5
members-preserved-in-Continue-branch-5 c =
    let l = c.members in
    let n = l.invariant.0 in
    let all = l.invariant.2 in
    let k = c.in-Some.name.now in
    let s = c.next_name.new.reader in
    let d = found_value c.in_ok-member.member in
    let r = c.next_member.new.reader in
    let named : read_key l.reader ≡ Some (Some k, s) = or_none _ _ c.in_ok-place.ensures ∙ ap (λ o. Some (option_map (λ b. b.1.now) o, s)) c.in-Some.is in
    let less = read_key-shorter l.reader (Some k) s named in
    let lesser : length r < length s = c.in_ok-member.ensures.shorter in
    let read : converted of_json (value 126 s) ≡ Some (d, r) = or_none _ _ c.in_ok-member.ensures.read in
    let pushed : found_members c.push.new.self.items ≡ put k d (found_members l.list.items) =
    ap found_members c.in_ok-push.ensures.items ∙ found_members-push l.list.items _ ∙ ap (λ n. put n d (found_members l.list.items)) (c.in_ok-member.ensures.name ∙ c.in-Some-in_body.ensures) in (
      n - 1,
      omega (arith, l.invariant.1),
      put k d all,
      l.invariant.3 ∙ member_read (value 126) all n k l.reader s r d (omega (arith, l.invariant.1)) named read,
      subst (Keeps (map (λ b. b.now) c.args.names.now) c.args.keeps_others (put k d all)) (sym pushed) (keeps_put (map (λ b. b.now) c.args.names.now) c.args.keeps_others k d all (found_members l.list.items) l.invariant.4),
    )

pub returns-in_err-pass_value : goal.returns-in_err-pass_value
returns-in_err-pass_value c =
    let l = c.members in
    let k = c.in-Some.name.now in
    let s = c.next_name.new.reader in
    let named : read_key l.reader ≡ Some (Some k, s) = or_none _ _ c.in_ok-place.ensures ∙ ap (λ o. Some (option_map (λ b. b.1.now) o, s)) c.in-Some.is in
    let p = err_from_is_err_and c.from_residual-in_err-pass_value.result c.from_residual-in_err-pass_value.ensures.1 in
    rw (p.1, p.2) (refused_all c.in_err-pass_value.field-0.0 (option_map (λ q. q.1) (converted of_json (value 126 s))) _ c.in_err-pass_value.ensures.read
    (λ e. l.invariant.3 ∙ member_refused (value 126) l.invariant.2 l.invariant.0 k l.reader s named (passed_none (converted of_json (value 126 s)) e)))

pub members-preserved : goal.members-preserved
members-preserved c =
    let l = c.members in
    let n = l.invariant.0 in
    let all = l.invariant.2 in
    let k = c.in-Some.name.now in
    let s = c.next_name.new.reader in
    let r = c.pass_value.new.reader in
    let named : read_key l.reader ≡ Some (Some k, s) = or_none _ _ c.in_ok-place.ensures ∙ ap (λ o. Some (option_map (λ b. b.1.now) o, s)) c.in-Some.is in
    let less = read_key-shorter l.reader (Some k) s named in
    let lesser : length r < length s = c.in_ok-pass_value.ensures.shorter in
    let read = passed (converted of_json (value 126 s)) r (or_none _ _ c.in_ok-pass_value.ensures.read) in
    let unwanted : c.args.keeps_others || has_name k (map (λ b. b.now) c.args.names.now) ≡ false = sym c.if-is_kept.ensures in (
      n - 1,
      omega (arith, l.invariant.1),
      put k read.0 all,
      l.invariant.3 ∙ member_read (value 126) all n k l.reader s r read.0 (omega (arith, l.invariant.1)) named read.1,
      keeps_past (map (λ b. b.now) c.args.names.now) c.args.keeps_others k read.0 all (found_members l.list.items) unwanted l.invariant.4,
    )

pub returns : goal.returns
returns c =
    let l = c.members in
    let n = l.invariant.0 in
    let r = c.next_name.new.reader in
    let closed : read_key l.reader ≡ Some (None, r) = or_none _ _ c.in_ok-place.ensures ∙ ap (λ o. Some (option_map (λ b. b.1.now) o, r)) c.in_default.is in
    (l.invariant.2, ap or_not_json (l.invariant.3 ∙ members_over (value 126) l.invariant.2 n l.reader r l.invariant.1 closed), l.invariant.4)
