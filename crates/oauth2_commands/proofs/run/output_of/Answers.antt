use Rattle.std.proofs.Common.{◌≡◌, string_bytes}
use Rattle.oauth2_results.specs.Result.{text_in}
use Rattle.oauth2_commands.specs.Run.{IsOutputOf}
use Rattle.oauth2_script.specs.Form.{form_in}
use Rattle.oauth2_commands.proofs.run.output_of.Goals as goal

pub returns : goal.returns
unfolding IsOutputOf
returns c =
    let run = rw c.in_ok-form.ensures.script at c.in_ok-events.ensures in
    let text : string_bytes c.in_ok-text.text ≡ text_in (form_in c.args.input.now) run.0.events =
    rw (← c.in_ok-form.ensures.form, ← run.2) c.in_ok-text.ensures in
    (run.0, run.1, text, run.3)
