use Rattle.std.proofs.Common.{◌≡◌}
use Rattle.oauth2_request_commands.specs.Client.{settings_of}
use Rattle.oauth2_script.specs.Views.{client_view}
use Rattle.oauth2_commands.proofs.run.run_plain.Goals as goal

pub returns : goal.returns
returns c =
    let is : c.client_of.result ≡ settings_of (client_view c.args.client) = c.client_of.ensures in
    rw is at c.run_command.ensures
