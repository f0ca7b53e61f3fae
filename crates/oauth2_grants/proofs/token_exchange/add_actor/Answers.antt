use Rattle.oauth2_grants.proofs.token_exchange.add_actor.Goals as goal

pub returns-in_ok-add_typed-in-Some : goal.returns-in_ok-add_typed-in-Some
returns-in_ok-add_typed-in-Some c = rw (c.in-Some.is) c.in_ok-add_typed-in-Some.ensures
