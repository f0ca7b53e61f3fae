use Rattle.std.proofs.Common.{subst}
use Rattle.oauth2_replies.specs.Kept.{AreFieldsKept}
use Rattle.oauth2_pushed_login.specs.PushMembers.{PushMembers, push_reading, push_writing}
use Rattle.oauth2_pushed_login.proofs.Kept.{push_kept}
use Rattle.oauth2_pushed_login.proofs.push_metadata_json.PushMetadataToJson.to_json.Goals as goal

pub returns-in_err-endpoint-clause-kept : goal.returns-in_err-endpoint-clause-kept
returns-in_err-endpoint-clause-kept c = subst (λ (m : PushMembers). AreFieldsKept push_reading (λ (n : PushMembers). n) push_writing m) c.self.view_is (push_kept _ c.self.invariant)

pub returns-in_err-put_some-clause-kept : goal.returns-in_err-put_some-clause-kept
returns-in_err-put_some-clause-kept c = subst (λ (m : PushMembers). AreFieldsKept push_reading (λ (n : PushMembers). n) push_writing m) c.self.view_is (push_kept _ c.self.invariant)

pub returns-in_err-put_some-2-clause-kept : goal.returns-in_err-put_some-2-clause-kept
returns-in_err-put_some-2-clause-kept c = subst (λ (m : PushMembers). AreFieldsKept push_reading (λ (n : PushMembers). n) push_writing m) c.self.view_is (push_kept _ c.self.invariant)

pub returns-clause-kept : goal.returns-clause-kept
returns-clause-kept c = subst (λ (m : PushMembers). AreFieldsKept push_reading (λ (n : PushMembers). n) push_writing m) c.self.view_is (push_kept _ c.self.invariant)
