use Rattle.std.proofs.Common.{◌≡◌, ◌∷◌, map, subst, sym, ap, ◌∙◌}
use Rattle.json.specs.Token.{Token}
use Rattle.json.specs.Lex.{tokens}
use Rattle.json.specs.Reads.{token_of}
use Rattle.oauth2_body_members.specs.Object.{KeptAs}
use Rattle.oauth2_body_members.specs.private.Found.{found_members}
use Rattle.oauth2_body_members.specs.private.Texts.{IfFound}
use Rattle.oauth2_body_members.proofs.Turns.{opened}
use Rattle.oauth2_body_members.proofs.object.found_in.Goals as goal

pub returns-in-Some-BeginObject : goal.returns-in-Some-BeginObject
returns-in-Some-BeginObject c =
    let r = c.next.new.self in
    let first : tokens c.args.text.now ≡ Token.begin_object ∷ r = sym c.in_ok-reader.ensures.ok ∙ c.in-Some-BeginObject.ensures.value ∙ ap (λ t. token_of t ∷ r) c.in-Some-BeginObject.field-0-is in
    subst (λ e. IfFound c.to_end.result (λ found. KeptAs (λ list. found_members list.items) (map (λ k. k.now) c.args.names.now) c.args.keeps_others found e)) (sym (opened c.args.text.now r first)) c.to_end.ensures
