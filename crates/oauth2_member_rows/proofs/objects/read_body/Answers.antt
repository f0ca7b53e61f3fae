use Rattle.std.proofs.Common.{◌≡◌, false, map, subst, refl, sym, ◌∙◌}
use Rattle.oauth2_json.specs.Reading.{ReadsAs}
use Rattle.oauth2_body_members.specs.Object.{object_members, Keeps}
use Rattle.oauth2_body_members.proofs.Keeping.{body_rows}
use Rattle.oauth2_member_rows.proofs.Names.{kept_agree}
use Rattle.oauth2_member_rows.proofs.objects.read_body.Goals as goal

pub returns : goal.returns
returns g c =
    let R = g.R.Rows in
    let s = c.args.rows.now in
    let ks = R.names s in
    let named : map (λ k. k.now) c.as_slice.result.now ≡ ks = rw (c.as_slice.ensures.value, c.in_ok-push_names.ensures, c.new-names.ensures.items) refl in
    let k = c.in_ok-object.ensures in
    let left = object_members c.in_ok-object.object in
    let kept = subst (λ names. Keeps names false k.0 left) named k.2 in
    subst (ReadsAs R.meaning c.read.result)
    (g.met.R.Rows.depends s left k.0 (kept_agree ks left k.0 kept.own) ∙ sym (body_rows (R.reading s) c.args.bytes.now k.0 k.1)) c.read.ensures.read
