use Rattle.std.proofs.Common.{map, Ok, subst, sym}
use Rattle.serde_json.specs.Read.{read}
use Rattle.oauth2_json.specs.Body.{value_reading}
use Rattle.oauth2_json.specs.Members.{members_of_object}
use Rattle.oauth2_body_members.specs.Object.{object_members, Keeps, KeptAs}
use Rattle.oauth2_body_members.specs.private.Found.{found_members}
use Rattle.oauth2_body_members.specs.private.Texts.{IfFound}
use Rattle.oauth2_body_members.proofs.object.of_text.Goals as goal

pub returns-in_ok-with_texts-in-Some : goal.returns-in_ok-with_texts-in-Some
unfolding object_members
returns-in_ok-with_texts-in-Some c =
    let names = map (λ k. k.now) c.args.names.now in
    let all = value_reading members_of_object (read c.args.text.now) in
    let kept = subst (λ found. IfFound (Ok found) (λ r. KeptAs (λ list. found_members list.items) names c.args.keeps_others r all)) c.in-Some.is c.in_ok-list.ensures in
    (kept.0, kept.1, subst (Keeps names c.args.keeps_others kept.0) (sym c.in_ok-with_texts-in-Some.ensures) kept.2)
