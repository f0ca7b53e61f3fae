use Rattle.oauth2_shared_keeper_command.proofs.sending.show_lost.Goals as goal

pub returns-clause-shown : goal.returns-clause-shown
returns-clause-shown c = rw (c.as_str.ensures.value, c.in_ok-text.ensures, c.as_slice.ensures.value) at c.tell.ensures.shown
