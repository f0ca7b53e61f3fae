use Rattle.oauth2_json.proofs.Objects.{if_written}
use Rattle.oauth2_replies.specs.Kept.{AreFieldsKept}
use Rattle.oauth2_extra_fields.specs.Fields.{with_member_seen, with_member_reading, with_member_writing, IsValueKept}
use Rattle.oauth2_extra_fields.proofs.FieldLaws.{members_again}
use Rattle.oauth2_extra_fields.proofs.with_member.WithMemberToJson.to_json.Goals as goal

pub returns-clause-kept : goal.returns-clause-kept
returns-clause-kept g c =
    let fields = c.args.self.now in
    let name = g.M.NamedMember.name in
    let V = g.M.Value.MemberValue in
    let F = g.Rest.FromJson in
    let w = g.Rest.ToJson.writing in
    if_written c.to_value.result (with_member_writing name V.written w fields)
    (λ d. IsValueKept V.written fields.value → AreFieldsKept F.reading F.meaning w fields.rest → AreFieldsKept (with_member_reading name V.reading F.reading) (with_member_seen V.meaning F.meaning) (with_member_writing name V.written w) fields)
    c.to_value.ensures (λ d h kept rest.
    members_again name V.reading V.meaning V.written F.reading F.meaning w fields d g.met.M.Value.MemberValue.reads_back h kept rest)
