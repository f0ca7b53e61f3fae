use Rattle.std.proofs.Common.{◌≡◌, ◌+◌, ◌≤◌, false, length, Some}
use Rattle.oauth2_urls.specs.Addressed.{Addressed}
use Rattle.oauth2_world.specs.Replay.{client_replies}
use Rattle.oauth2_request_commands.specs.Out.{Output, AddsOutput, both_outputs}
use Rattle.oauth2_shared_keeper_command.specs.SharedKeeper.{Standing, AreSteps}
use Rattle.oauth2_shared_keeper_command.specs.private.Standing.{standing}
use Rattle.oauth2_shared_keeper_command.proofs.run.show_steps.Given as goal

abbrev pub invariant-loop-step : goal.invariant-loop-step
invariant-loop-step l =
    (l.fleet.stored.version ≤ l.place)
    × (l.place + length l.rest ≡ length l.steps)
    × ((url : Addressed) → l.client.token_url ≡ Some url → l.http_client.is_starved ≡ false
    → (done : Output) × AddsOutput l.initial.http_client.events l.http_client.events l.status done
    × ((rest : Output) (kept : Standing) → AreSteps l.client url l.place (standing l.fleet (client_replies l.http_client)) l.rest rest kept
    → AreSteps l.client url 0 (standing l.initial.fleet (client_replies l.initial.http_client)) l.steps (both_outputs done rest) kept))

abbrev pub decreases-loop-step : goal.decreases-loop-step
decreases-loop-step l = length l.rest
