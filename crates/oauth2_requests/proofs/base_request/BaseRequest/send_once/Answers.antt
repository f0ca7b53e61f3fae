use Rattle.oauth2_requests.proofs.base_request.BaseRequest.send_once.Goals as goal

pub returns-clause-once : goal.returns-clause-once
returns-clause-once g c = rw (← c.self.view_is) c.send_once.ensures.once
