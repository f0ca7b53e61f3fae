use Rattle.std.proofs.Common.{◌≡◌, true, false}
use Rattle.oauth2_script_values.proofs.Inputs.{json_in-read, json_in-unread}
use Rattle.oauth2_script_values.proofs.json.json_in.Goals as goal

pub returns-in-Ok : goal.returns-in-Ok
returns-in-Ok c = json_in-read c.args.input.now _ c.in-Ok.ensures.ok.0 c.in-Ok.ensures.ok.1

pub returns-else-is_memory : goal.returns-else-is_memory
returns-else-is_memory c = rw c.bad.ensures (json_in-unread c.args.input.now (c.in-Err.ensures.err (λ m. let h : false ≡ true = c.if-is_memory.ensures.1 m in cc)))
