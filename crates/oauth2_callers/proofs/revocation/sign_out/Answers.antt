use Rattle.std.proofs.Common.{refl}
use Rattle.std.proofs.lemmas.Option.{IfSome_then}
use Rattle.oauth2_callers.proofs.SignOut.{OnOk-revoked}
use Rattle.oauth2_callers.proofs.revocation.sign_out.Goals as goal

pub returns-in_err-request-2-clause-unsent : goal.returns-in_err-request-2-clause-unsent
returns-in_err-request-2-clause-unsent g c =
    IfSome_then c.args.client.now.revocation_url c.in_ok-request.ensures.insecure (λ endpoint never insecure. absurd (never insecure))

pub returns-clause-revoked : goal.returns-clause-revoked
returns-clause-revoked g c =
    OnOk-revoked _ _ g.C.SyncHttpClient.step _ _ c.args.client.now _ _ _ _ c.in_ok-request.ensures.there c.in_ok-request.ensures.secure c.in_ok-request.ensures.insecure _ _ refl c.in_ok-request-2.ensures.once

pub returns-clause-unsent : goal.returns-clause-unsent
returns-clause-unsent g c =
    IfSome_then c.args.client.now.revocation_url c.in_ok-request.ensures.insecure (λ endpoint never insecure. absurd (never insecure))
