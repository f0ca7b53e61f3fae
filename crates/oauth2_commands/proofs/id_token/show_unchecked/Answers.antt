use Rattle.oauth2_commands.proofs.id_token.show_unchecked.Goals as goal

pub returns : goal.returns
returns c = rw c.in_ok-from_str.ensures.ok at c.in_ok-status.ensures
