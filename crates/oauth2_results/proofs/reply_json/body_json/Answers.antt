use Rattle.std.proofs.lemmas.Str.{is_utf8-from_IsUtf8}
use Rattle.oauth2_results.proofs.NotUtf8.{is_not_utf8}
use Rattle.oauth2_results.proofs.reply_json.body_json.Goals as goal

pub returns-in-Ok : goal.returns-in-Ok
returns-in-Ok c = rw (is_utf8-from_IsUtf8 _ c.in-Ok.ensures.cases.1, ← c.in-Ok.ensures.cases.0) c.text_json.ensures

pub returns-in-Err : goal.returns-in-Err
returns-in-Err c = rw (is_not_utf8 _ c.in-Err.ensures.cases.0) c.from_str.ensures.ok
