use Rattle.oauth2_requests.proofs.query_len.with_challenge.Goals as goal

pub returns-in-Some : goal.returns-in-Some
returns-in-Some c = λ query start.
    let both = c.with_pair.ensures _ (c.with_pair-len.ensures query start) in
    rw (c.in-Some.is) (rw (c.as_str.ensures, c.as_str-in-Some.ensures.value, c.deref.ensures, c.method.ensures) at both)
