use Rattle.oauth2_keeper.proofs.SentFaults.{sent_counts}
use Rattle.oauth2_keeper.proofs.laws.each_sent_fault_counts.Goals as goal

pub returns : goal.returns
returns g c =
    sent_counts g.TR.FromJson.meaning g.TE.FromJson.meaning g.C.SyncHttpClient.step g.TR.FromJson.reading g.TE.FromJson.reading
