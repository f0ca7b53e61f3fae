use Rattle.std.proofs.Common.{◌≡◌, Ok, Err, Some, None, inl, inr, ap, ◌∙◌, sym, subst}
use Rattle.std.specs.Prelude.{IsSome}
use Rattle.oauth2_openid_login.specs.End.{id_token_reading}
use Rattle.oauth2_callers.proofs.Accepted.{IfOk-from_each, IsAnsweredBy-from_ExchangesCode, seen_as_itself}
use Rattle.oauth2_callers.proofs.openid.finish_login.Goals as goal

pub returns-clause-user : goal.returns-clause-user
returns-clause-user g c = IfOk-from_each _ c.finish_without_signature.result (λ end is.
    elim c.finish_without_signature.ensures.end [
      | inl h ↦ elim h.2 [
        | inl e ↦ elim e.4 [
          | inl j ↦
              let answered = IsAnsweredBy-from_ExchangesCode _ _ g.C.SyncHttpClient.step c.args.client.now c.args.login.login h.0 (Ok e.0) e.1 in
              let judged = rw is at j.1 in
              let rules = rw is at c.finish_without_signature.ensures.rules in
              (h.0, h.1, _, answered, (ap id_token_reading (seen_as_itself e.0.extra_fields.value) ∙ judged.1, rules.0, rules.1, rw judged.0 at rules.2))
          | inr j ↦ absurd (cc)
        ]
        | inr e ↦ absurd (cc)
      ]
      | inr h ↦ absurd (cc)
    ])

pub returns-clause-no_id_token : goal.returns-clause-no_id_token
returns-clause-no_id_token g c = λ none.
    elim c.finish_without_signature.ensures.end [
      | inl h ↦ elim h.2 [
        | inl e ↦ elim e.4 [
          | inl j ↦
              let answered = IsAnsweredBy-from_ExchangesCode _ _ g.C.SyncHttpClient.step c.args.client.now c.args.login.login h.0 (Ok e.0) e.1 in
              let judged = rw none at j.1 in
              (h.0, h.1, _, answered, seen_as_itself e.0.extra_fields.value ∙ judged)
          | inr j ↦ absurd (cc)
        ]
        | inr e ↦ absurd (cc)
      ]
      | inr h ↦ absurd (cc)
    ]

pub returns-clause-rule : goal.returns-clause-rule
returns-clause-rule g c = λ error broken.
    elim c.finish_without_signature.ensures.end [
      | inl h ↦ elim h.2 [
        | inl e ↦ elim e.4 [
          | inl j ↦
              let answered = IsAnsweredBy-from_ExchangesCode _ _ g.C.SyncHttpClient.step c.args.client.now c.args.login.login h.0 (Ok e.0) e.1 in
              let judged = rw broken at j.1 in
              (h.0, h.1, _, answered, (judged.0, ap id_token_reading (seen_as_itself e.0.extra_fields.value) ∙ judged.1, e.2, e.3, judged.2))
          | inr j ↦ absurd (cc)
        ]
        | inr e ↦ absurd (cc)
      ]
      | inr h ↦ absurd (cc)
    ]

pub returns-clause-unread : goal.returns-clause-unread
returns-clause-unread g c = λ error unread.
    elim c.finish_without_signature.ensures.end [
      | inl h ↦ elim h.2 [
        | inl e ↦ elim e.4 [
          | inl j ↦
              let answered = IsAnsweredBy-from_ExchangesCode _ _ g.C.SyncHttpClient.step c.args.client.now c.args.login.login h.0 (Ok e.0) e.1 in
              let judged = rw unread at j.1 in
              (h.0, h.1, _, answered, (judged.0, judged.1, ap id_token_reading (seen_as_itself e.0.extra_fields.value) ∙ judged.2))
          | inr j ↦ absurd (cc)
        ]
        | inr e ↦ absurd (cc)
      ]
      | inr h ↦ absurd (cc)
    ]

pub returns-clause-memory : goal.returns-clause-memory
returns-clause-memory g c = λ is.
    elim c.finish_without_signature.ensures.end [
      | inl h ↦ elim h.2 [
        | inl e ↦ elim e.4 [
          | inl j ↦
              let answered = IsAnsweredBy-from_ExchangesCode _ _ g.C.SyncHttpClient.step c.args.client.now c.args.login.login h.0 (Ok e.0) e.1 in
              let judged = rw is at j.1 in
              (h.0, h.1, _, answered, subst IsSome (sym (seen_as_itself e.0.extra_fields.value)) judged)
          | inr j ↦ absurd (cc)
        ]
        | inr e ↦ absurd (cc)
      ]
      | inr h ↦ absurd (cc)
    ]

pub returns-clause-refusal : goal.returns-clause-refusal
returns-clause-refusal g c = λ refused is.
    elim c.finish_without_signature.ensures.end [
      | inl h ↦ elim h.2 [
        | inl e ↦ elim e.4 [ inl j ↦ absurd (rw is at j.1) | inr j ↦ absurd (cc) ]
        | inr e ↦ absurd (cc)
      ]
      | inr h ↦ let same : h.0 ≡ refused = cc (h.1, is) in rw same at h.3
    ]

pub returns-clause-token : goal.returns-clause-token
returns-clause-token g c = λ error is.
    elim c.finish_without_signature.ensures.end [
      | inl h ↦ elim h.2 [
        | inl e ↦ elim e.4 [ inl j ↦ absurd (rw is at j.1) | inr j ↦ absurd (cc) ]
        | inr e ↦ let same : e.0 ≡ error = cc (e.1, is) in (h.0, h.1, rw same at e.2)
      ]
      | inr h ↦ absurd (cc)
    ]
