use Rattle.oauth2_shared_keeper_command.proofs.texts.content_text.Goals as goal

pub returns : goal.returns
returns c = rw c.in-Some.is (rw (c.as_str.ensures.value, c.in_ok-token.ensures) at c.mark_text.ensures)
