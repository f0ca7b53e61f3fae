use Rattle.std.proofs.Common.{◌≡◌, map, subst, refl, sym, ◌∙◌}
use Rattle.oauth2_json.specs.Reading.{ReadsAs}
use Rattle.oauth2_body_members.specs.Object.{object_members, Keeps}
use Rattle.oauth2_body_members.proofs.Keeping.{body_rows}
use Rattle.oauth2_member_rows.specs.Objects.{both_seen, row_with}
use Rattle.oauth2_member_rows.proofs.Whole.{kept_with}
use Rattle.oauth2_member_rows.proofs.objects.read_body_with.Goals as goal

pub returns : goal.returns
returns g c =
    let R = g.R.Rows in
    let E = g.E.FromJson in
    let s = c.args.rows.now in
    let ks = R.names s in
    let named : map (λ k. k.now) c.as_slice.result.now ≡ ks = rw (c.as_slice.ensures.value, c.in_ok-push_names.ensures, c.new-names.ensures.items) refl in
    let k = c.in_ok-object.ensures in
    let left = object_members c.in_ok-object.object in
    let kept = subst (λ names. Keeps names c.reads_members.result k.0 left) named k.2 in
    subst (ReadsAs (both_seen R.meaning E.meaning) c.read_with.result)
    (kept_with ks (R.reading s) E.reading c.reads_members.result k.0 left (g.met.R.Rows.depends s left k.0) kept c.reads_members.ensures
    ∙ sym (body_rows (row_with ks (R.reading s) E.reading) c.args.bytes.now k.0 k.1)) c.read_with.ensures
