use Rattle.oauth2_requests.proofs.authorization_request.AuthorizationRequest.required_len.Goals as goal

pub returns : goal.returns
returns c = λ query start.
    let three = c.with_pair.ensures _ (c.with_pair-len-2.ensures _ (c.with_pair-len.ensures query start)) in
    rw (← c.self.view_is) (rw (c.as_str.ensures, c.as_str-2.ensures.value, c.deref.ensures, c.as_str-3.ensures.value, c.secret.ensures) at three)
