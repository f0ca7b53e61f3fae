use Rattle.std.proofs.Common.{◌≡◌, true, false}
use Rattle.oauth2_wire.specs.Request.{view_of}
use Rattle.oauth2_client_assertions.specs.Endpoints.{is_endpoint}
use Rattle.oauth2_client_assertions.specs.Requests.{authenticates, is_form_post}
use Rattle.oauth2_client_assertions.proofs.CallLemmas.{passes, sends, fails}
use Rattle.oauth2_client_assertions.proofs.asserting_client.AssertingClientSyncHttpClient.call.Goals as goal

pub returns-then-not-is_form_post-clause-step : goal.returns-then-not-is_form_post-clause-step
returns-then-not-is_form_post-clause-step g c =
    let found = c.is_form_post.ensures in
    let tested = c.if-not-is_form_post.true in
    let lacks_it : is_form_post (view_of c.args.request) ≡ false = cc in
    passes g.C.SyncHttpClient.step g.S.AssertionSource.step c.call.new.self c.args.request c.inner_result.result c.call.result c.self.view_is lacks_it c.call.ensures.step c.inner_result.ensures

pub returns-in-Ok-clause-step : goal.returns-in-Ok-clause-step
returns-in-Ok-clause-step g c =
    let found = c.is_form_post.ensures in
    let tested = c.if-not-is_form_post.false in
    let has_form : is_form_post (view_of c.args.request) ≡ true = cc in
    let target = c.uri.ensures in
    let looked = c.is_endpoint.ensures in
    let another = c.if-not-is_endpoint.false in
    let for_it : is_endpoint c.self.inside.endpoints (view_of c.args.request).target ≡ true = cc in
    let read = c.authenticates.ensures in
    let none = c.if-authenticates.false in
    let not_yet : authenticates (view_of c.args.request) ≡ false = cc in
    sends g.C.SyncHttpClient.step g.S.AssertionSource.step c.asserted_request.new.source c.call-in-Ok.new.self c.args.request c.in-Ok.sent c.inner_result-in-Ok.result c.call-in-Ok.result
    c.self.view_is has_form for_it not_yet c.in-Ok.ensures c.call-in-Ok.ensures.step c.inner_result-in-Ok.ensures

pub returns-in-Err-clause-step : goal.returns-in-Err-clause-step
returns-in-Err-clause-step g c =
    let found = c.is_form_post.ensures in
    let tested = c.if-not-is_form_post.false in
    let has_form : is_form_post (view_of c.args.request) ≡ true = cc in
    let target = c.uri.ensures in
    let looked = c.is_endpoint.ensures in
    let another = c.if-not-is_endpoint.false in
    let for_it : is_endpoint c.self.inside.endpoints (view_of c.args.request).target ≡ true = cc in
    let read = c.authenticates.ensures in
    let none = c.if-authenticates.false in
    let not_yet : authenticates (view_of c.args.request) ≡ false = cc in
    fails g.C.SyncHttpClient.step g.S.AssertionSource.step c.asserted_request.new.source c.args.request c.in-Err.error c.self.view_is has_form for_it not_yet c.in-Err.ensures
