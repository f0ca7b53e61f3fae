use Rattle.std.proofs.Common.{◌≡◌, Ok, subst}
use Rattle.oauth2_json.proofs.Objects.{if_written}
use Rattle.oauth2_introspection.specs.Introspection.{introspection_seen, introspection_writing, introspection_reading, IsIntrospectionKept}
use Rattle.oauth2_introspection.proofs.IntrospectionLaws.{in_range, AreInRange, introspection_back}
use Rattle.oauth2_introspection.proofs.introspection_json.StandardTokenIntrospectionResponseToJson.to_json.Goals as goal

pub returns-clause-written : goal.returns-clause-written
returns-clause-written g c = rw (← c.self.view_is, c.in_ok-token_type.ensures) c.object_with.ensures

pub returns-clause-reads_back : goal.returns-clause-reads_back
returns-clause-reads_back g c =
    let r = c.args.self.now in
    let own = c.self.inside in
    let E = g.EF.FromJson in
    let T = g.TT.FromJson in
    let ew = g.EF.ToJson.writing in
    let tw = g.TT.ToJson.writing in
    let times = subst AreInRange c.self.view_is (in_range own.exp, in_range own.iat, in_range own.nbf) in
    if_written c.object_with.result (introspection_writing ew tw r) (λ d. IsIntrospectionKept E.reading E.meaning ew T.reading T.meaning tw r → introspection_reading E.reading T.reading d ≡ Ok (introspection_seen E.meaning T.meaning r))
    (rw (← c.self.view_is, c.in_ok-token_type.ensures) c.object_with.ensures)
    (λ d h k. introspection_back E.reading E.meaning ew T.reading T.meaning tw r times d h k)
