use Rattle.oauth2_form.specs.Pairs.{form}
use Rattle.oauth2_redirect.proofs.EndLaws.{finishes-authorized, finishes-refused}
use Rattle.oauth2_redirect.proofs.login.Login.finish_query.Goals as goal

pub returns-in-Ok : goal.returns-in-Ok
returns-in-Ok g c =
    let told = c.in-Ok.ensures.authorizes in
    finishes-authorized g.TR.FromJson.meaning g.TE.FromJson.meaning g.TR.FromJson.reading g.TE.FromJson.reading g.C.SyncHttpClient.step c.args.client.now c.args.self c.args.called.now (form c.args.query.now) c.args.http_client.now c.request_for_login.new.http_client
    g.C.SyncHttpClient.is_ready c.in-Ok.login told.0 told.1 told.2 c.request_for_login.result c.request_for_login.ensures.end c.request_for_login.ensures.ready

pub returns-in-Err : goal.returns-in-Err
returns-in-Err g c =
    finishes-refused g.TR.FromJson.meaning g.TE.FromJson.meaning g.TR.FromJson.reading g.TE.FromJson.reading g.C.SyncHttpClient.step c.args.client.now c.args.self c.args.called.now (form c.args.query.now) c.args.http_client.now
    g.C.SyncHttpClient.is_ready c.in-Err.refused c.in-Err.ensures.authorizes c.in-Err.ensures.memory c.in-Err.ensures.no_state c.requires
