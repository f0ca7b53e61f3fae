-- The parts of a run, one after the other.
use Rattle.std.proofs.Common.{◌≡◌, refl, append_assoc, append-nil}
use Rattle.oauth2_request_commands.specs.Out.{Output, both, nothing, both_outputs}
use Rattle.oauth2_request_commands.specs.declared.status.RunStatus.{RunStatus}
use Rattle.oauth2_request_commands.specs.declared.status.RunStatus.TheVariants as status

both-assoc : (a b c : RunStatus) → both (both a b) c ≡ both a (both b c)
both-assoc status.Answered b c = refl
both-assoc status.Fault b c = refl
both-assoc status.BadScript b c = refl

both-answered : (a : RunStatus) → both a status.Answered ≡ a
both-answered status.Answered = refl
both-answered status.Fault = refl
both-answered status.BadScript = refl

pub joined-assoc : (a b c : Output) → both_outputs (both_outputs a b) c ≡ both_outputs a (both_outputs b c)
joined-assoc a b c = rw (append_assoc a.events b.events c.events, both-assoc a.status b.status c.status) refl

pub joined-nothing : (a : Output) → both_outputs a nothing ≡ a
joined-nothing a = rw (append-nil a.events, both-answered a.status) refl
