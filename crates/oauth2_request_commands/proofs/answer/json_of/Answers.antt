use Rattle.std.proofs.Common.{◌≡◌, false}
use Rattle.serde_json.specs.Written.{has_float}
use Rattle.oauth2_request_commands.proofs.answer.json_of.Goals as goal

pub returns-in-Ok : goal.returns-in-Ok
returns-in-Ok g c =
    let text = c.in-Ok.ensures.text in
    let free : has_float text.0 ≡ false = rw text.1 at c.requires in
    λ d written. let same : text.0 ≡ d = cc in rw (← same) (text.2 free)
