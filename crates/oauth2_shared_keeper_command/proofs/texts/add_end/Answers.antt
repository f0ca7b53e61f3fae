use Rattle.oauth2_shared_keeper_command.proofs.texts.add_end.Goals as goal

pub returns-in_ok-text-in-InUse : goal.returns-in_ok-text-in-InUse
returns-in_ok-text-in-InUse c =
    rw c.in-InUse.is (rw (c.in_ok-text-in-InUse.ensures, c.as_str.ensures.value, c.in_ok-token-in-InUse.ensures) at c.add_step.ensures)

pub returns-in_ok-from_str-in-LoggedOut : goal.returns-in_ok-from_str-in-LoggedOut
returns-in_ok-from_str-in-LoggedOut c =
    rw c.in-LoggedOut.is (rw c.in_ok-from_str-in-LoggedOut.ensures.ok at c.add_step-in-LoggedOut.ensures)
