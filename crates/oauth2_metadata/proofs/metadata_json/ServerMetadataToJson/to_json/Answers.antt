use Rattle.std.proofs.Common.{◌≡◌, Ok, subst}
use Rattle.oauth2_json.proofs.Objects.{if_written}
use Rattle.oauth2_replies.specs.Kept.{AreFieldsKept}
use Rattle.oauth2_metadata.specs.Metadata.{metadata_names, metadata_reading, metadata_rows, metadata_seen, metadata_writing}
use Rattle.oauth2_metadata.specs.private.Kept.{AreAddresses}
use Rattle.oauth2_metadata.proofs.BackLaws.{metadata_back}
use Rattle.oauth2_metadata.proofs.metadata_json.ServerMetadataToJson.to_json.Goals as goal

pub returns-clause-written : goal.returns-clause-written
unfolding metadata_names metadata_rows
returns-clause-written g c = rw (← c.self.view_is, ← c.parsed.ensures.same) c.object_with.ensures

pub returns-clause-reads_back : goal.returns-clause-reads_back
returns-clause-reads_back g c =
    let m = c.args.self.now in
    let E = g.EF.FromJson in
    let ew = g.EF.ToJson.writing in
    if_written c.object_with.result (metadata_writing ew m) (λ d. AreFieldsKept E.reading E.meaning ew m.extra_fields → metadata_reading E.reading d ≡ Ok (metadata_seen E.meaning m))
    (returns-clause-written g c) (λ d h k. metadata_back E.reading E.meaning ew m (subst (λ w. AreAddresses w.endpoints) c.self.view_is c.parsed.ensures.addresses) d h k)
