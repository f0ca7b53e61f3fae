use Rattle.std.proofs.Common.{◌≡◌, true, subst, sym, ◌∙◌}
use Rattle.std.specs.Prelude.{codes}
use Rattle.http_header.specs.HeaderMap.{get}
use Rattle.oauth2_adapters.specs.OtherMediaTypes.{has_type_of}
use Rattle.oauth2_adapters.specs.Reply.{reply_values}
use Rattle.oauth2_adapters.proofs.Headers.{as_json-listed}
use Rattle.oauth2_adapters.proofs.other_media_types.OtherMediaTypesReplyAdapter.adapt.Goals as goal

pub returns-then-has_type_of-clause-reply : goal.returns-then-has_type_of-clause-reply
returns-then-has_type_of-clause-reply c =
    let reply = reply_values c.args.reply in
    let listed : has_type_of c.args.self.now (get reply.headers (codes "content-type")) ≡ true =
    subst (λ t. has_type_of t (get reply.headers (codes "content-type")) ≡ true) c.self.view_is (sym c.if-has_type_of.ensures.value) in
    c.as_json.ensures ∙ sym (as_json-listed c.args.self.now reply listed)
