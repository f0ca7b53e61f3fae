use Rattle.std.proofs.Common.{◌≡◌, ◌++◌, subst, sym, ap, refl, ◌∙◌}
use Rattle.std.proofs.lemmas.Result.{err_from_is_err_and}
use Rattle.std.specs.Prelude.{codes}
use Rattle.url.specs.declared.scheme.SchemeType.TheVariants.{SpecialNotFile}
use Rattle.url.specs.Parser.{with_path}
use Rattle.url.specs.Path.{IsSegmentList}
use Rattle.oauth2_metadata.specs.Issuer.{trimmed, openid_place, IsTooLong}
use Rattle.oauth2_metadata.proofs.PlaceLaws.{issuer_kind, none_if, openid_path, placed, long_path, short_path, too_long, no_memory}
use Rattle.oauth2_metadata.proofs.issuer.openid_metadata_url.Goals as goal

pub at_path-requires-clause-web : goal.at_path-requires-clause-web
at_path-requires-clause-web c = issuer_kind c.args.issuer.now (sym c.refusal.ensures ∙ none_if c.refusal.result c.in_default.not-Some)

pub at_path-requires-clause-segments : goal.at_path-requires-clause-segments
at_path-requires-clause-segments c =
    let cut = c.without_last_slash-own.ensures ∙ ap trimmed c.path.ensures.value in
    let text : trimmed c.args.issuer.now.path ++ codes "/.well-known/openid-configuration" ≡ c.as_str.result.now = cc (cut, c.in_ok-path.ensures.ok, c.in_ok-push_str.ensures.bytes, c.as_str.ensures.value) in
    subst (IsSegmentList SpecialNotFile) text (openid_path c.args.issuer.now c.path.ensures.valid (at_path-requires-clause-web c))

pub returns-then-is_too_long : goal.returns-then-is_too_long
returns-then-is_too_long c =
    let cut = c.without_last_slash-own.ensures ∙ ap trimmed c.path.ensures.value in
    let issues = sym c.refusal.ensures ∙ none_if c.refusal.result c.in_default.not-Some in
    too_long openid_place c.args.issuer.now (c.without_last_slash-own.result.now ++ (codes "/.well-known/openid-configuration")) issues (ap (λ own. with_path c.args.issuer.now (own ++ codes "/.well-known/openid-configuration")) cut)
    (long_path c.args.issuer.now c.without_last_slash-own.result.now (codes "/.well-known/openid-configuration") c.path.ensures.valid issues (c.if-is_too_long.ensures.0 refl))

pub returns-in_err-path : goal.returns-in_err-path
returns-in_err-path c =
    let cut = c.without_last_slash-own.ensures ∙ ap trimmed c.path.ensures.value in
    let issues = sym c.refusal.ensures ∙ none_if c.refusal.result c.in_default.not-Some in
    let r = c.from_residual in
    let p = err_from_is_err_and r.result r.ensures.1 in
    rw p.1 (no_memory openid_place c.args.issuer.now (c.without_last_slash-own.result.now ++ (codes "/.well-known/openid-configuration")) p.0 issues (ap (λ own. with_path c.args.issuer.now (own ++ codes "/.well-known/openid-configuration")) cut)
    (short_path c.args.issuer.now c.without_last_slash-own.result.now (codes "/.well-known/openid-configuration") c.path.ensures.valid issues c.if-is_too_long.ensures.1) p.2)

pub returns-in_err-push_str : goal.returns-in_err-push_str
returns-in_err-push_str c =
    let cut = c.without_last_slash-own.ensures ∙ ap trimmed c.path.ensures.value in
    let issues = sym c.refusal.ensures ∙ none_if c.refusal.result c.in_default.not-Some in
    let r = c.from_residual-in_err-push_str in
    let p = err_from_is_err_and r.result r.ensures.1 in
    rw p.1 (no_memory openid_place c.args.issuer.now (c.without_last_slash-own.result.now ++ (codes "/.well-known/openid-configuration")) p.0 issues (ap (λ own. with_path c.args.issuer.now (own ++ codes "/.well-known/openid-configuration")) cut)
    (short_path c.args.issuer.now c.without_last_slash-own.result.now (codes "/.well-known/openid-configuration") c.path.ensures.valid issues c.if-is_too_long.ensures.1) p.2)

pub returns : goal.returns
returns c =
    let cut = c.without_last_slash-own.ensures ∙ ap trimmed c.path.ensures.value in
    let issues = sym c.refusal.ensures ∙ none_if c.refusal.result c.in_default.not-Some in
    let text : c.without_last_slash-own.result.now ++ (codes "/.well-known/openid-configuration") ≡ c.as_str.result.now = cc (c.in_ok-path.ensures.ok, c.in_ok-push_str.ensures.bytes, c.as_str.ensures.value) in
    placed openid_place c.args.issuer.now c.as_str.result.now c.at_path.result issues (sym (ap (with_path c.args.issuer.now) text) ∙ ap (λ own. with_path c.args.issuer.now (own ++ codes "/.well-known/openid-configuration")) cut)
    (subst (λ path. ¬ (IsTooLong (with_path c.args.issuer.now path))) text (short_path c.args.issuer.now c.without_last_slash-own.result.now (codes "/.well-known/openid-configuration") c.path.ensures.valid issues c.if-is_too_long.ensures.1))
    c.at_path.ensures.ok c.at_path.ensures.refusal
