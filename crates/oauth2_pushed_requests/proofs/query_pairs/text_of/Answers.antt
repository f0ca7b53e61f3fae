use Rattle.std.proofs.Common.{refl, inl, inr}
use Rattle.std.proofs.lemmas.Result.{err_from_is_err_and}
use Rattle.std.proofs.lemmas.Str.{is_utf8-from_IsUtf8}
use Rattle.oauth2_pushed_requests.proofs.Kept.{is_not_utf8}
use Rattle.oauth2_pushed_requests.proofs.query_pairs.text_of.Goals as goal

pub returns-in_ok-from_str-in-Ok-clause-ok : goal.returns-in_ok-from_str-in-Ok-clause-ok
returns-in_ok-from_str-in-Ok-clause-ok c =
    (rw (c.in_ok-from_str-in-Ok.ensures.ok) (c.in-Ok.ensures.cases.0), is_utf8-from_IsUtf8 _ c.in-Ok.ensures.cases.1)

pub returns-in_err-from_str-in-Ok-clause-err : goal.returns-in_err-from_str-in-Ok-clause-err
returns-in_err-from_str-in-Ok-clause-err c =
    let p = err_from_is_err_and c.from_residual.result c.from_residual.ensures.1 in
    rw p.1 (inl (is_utf8-from_IsUtf8 _ c.in-Ok.ensures.cases.1, p.2))

pub returns-in-Err-clause-err : goal.returns-in-Err-clause-err
returns-in-Err-clause-err c = inr (is_not_utf8 _ c.in-Err.ensures.cases.0, refl)
