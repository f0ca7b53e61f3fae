use Rattle.std.proofs.Common.{refl}
use Rattle.form_urlencoded.proofs.OnLiterals.{form_urlencoded_on_literals}
use Rattle.oauth2_form.proofs.QueryLaws.{ExtendsForm-then, ExtendsForm-of_equals}
use Rattle.oauth2_pushed_requests.proofs.reference_url.extended_query.Goals as goal

pub returns-clause-query : goal.returns-clause-query
returns-clause-query c =
    ExtendsForm-of_equals c.in_ok-query.ensures.text refl (ExtendsForm-then c.in_ok-append_plain_pair.ensures.ok c.in_ok-append_plain_pair-2.ensures.ok)

pub append_plain_pair-requires : goal.append_plain_pair-requires
unfolding form_urlencoded_on_literals
append_plain_pair-requires c = refl

pub append_plain_pair-requires-2 : goal.append_plain_pair-requires-2
unfolding form_urlencoded_on_literals
append_plain_pair-requires-2 c = refl
