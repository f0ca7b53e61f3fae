use Rattle.oauth2_shared_keeper_command.proofs.turn.tell.Goals as goal

pub returns-clause-shown : goal.returns-clause-shown
returns-clause-shown c = rw c.in_ok-text.ensures.ok at c.show_effect.ensures.shown
