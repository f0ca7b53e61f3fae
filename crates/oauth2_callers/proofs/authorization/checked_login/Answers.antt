use Rattle.std.proofs.Common.{◌≡◌, ℕ, List, [], Option, Some, None, subst, true, refl}
use Rattle.std.specs.Prelude.{IfSome, unwrap_or}
use Rattle.std.proofs.lemmas.Result.{IfOk-weaker}
use Rattle.form_urlencoded.specs.Form.{parse, raw_pairs, split}
use Rattle.oauth2_wire.specs.ByName.{avoid_own_names}
use Rattle.oauth2_callers.proofs.authorization.checked_login.Goals as goal

-- a URL without a query has no pair that could bear an own name
avoids-no_query : (query : Option (List ℕ)) → query ≡ None → avoid_own_names (parse (unwrap_or query [])) ≡ true
unfolding raw_pairs split
avoids-no_query None none = refl
avoids-no_query (Some text) none = cc

pub returns-clause-check : goal.returns-clause-check
returns-clause-check c = IfOk-weaker c.code_flow.result _ _
    (λ flow h. h.2 (avoids-no_query h.0.url.query (subst (λ url. IfSome url (λ endpoint. endpoint.url.query ≡ None)) h.1 c.requires.no_query)))
    c.code_flow.ensures.check
