use Rattle.std.proofs.Common.{Ok, Err, refl, rules}
use Rattle.std.proofs.lemmas.Result.{IfOk-weaker}
use Rattle.oauth2_commands.specs.Keeper.{keeper_fault}
use Rattle.oauth2_commands.proofs.Kept.{call_told, token_shown}
use Rattle.oauth2_request_commands.specs.Out.{success_output}
use Rattle.oauth2_world.specs.Quotation.{quotation}
use Rattle.oauth2_commands.proofs.script_keeper.show_call.Goals as goal

pub returns-in-Ok : goal.returns-in-Ok
returns-in-Ok c =
    IfOk-weaker c.show_kept.result _ _
    (λ status printed. λ fed.
    call_told c.args.http_client.now c.keep_good.new.http_client fed c.args.keeper.now c.keep_good.new.self
    c.args.now.nanosecond (Ok tt) c.in-Ok.ensures.call (success_output (quotation c.unwrap-token.result.now))
    (token_shown c.keep_good.new.self.keeper.token c.unwrap-token.result.now (search rules))
    c.show_kept.new.events status printed)
    c.show_kept.ensures

pub returns-in-Err : goal.returns-in-Err
returns-in-Err c =
    IfOk-weaker c.show_error.result _ _
    (λ status printed. λ fed.
    call_told c.args.http_client.now c.keep_good.new.http_client fed c.args.keeper.now c.keep_good.new.self
    c.args.now.nanosecond (Err c.in-Err.error) c.in-Err.ensures.call (keeper_fault c.in-Err.error) refl
    c.show_error.new.events status printed)
    c.show_error.ensures
