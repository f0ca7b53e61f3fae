use Rattle.std.proofs.Common.{string_bytes}
use Rattle.oauth2_world.specs.Events.{details_of}
use Rattle.oauth2_commands.proofs.Redirects.{refusal_shown}
use Rattle.oauth2_commands.proofs.redirect.show_refusal.Goals as goal

pub returns : goal.returns
returns c = λ told tells.
    refusal_shown (string_bytes c.in_ok-to_string.field-0) (details_of c.in_ok-details_in.field-0) c.args.events.now c.add_fault.new.events c.in_ok-status.status
    c.args.error.now told c.in_default.not-Memory tells c.in_ok-to_string.ensures.ok c.in_ok-details_in.ensures c.in_ok-status.ensures
