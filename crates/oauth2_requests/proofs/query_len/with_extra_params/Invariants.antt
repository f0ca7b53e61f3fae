use Rattle.std.proofs.Common.{◌≡◌, ℕ, List, map, take}
use Rattle.form_urlencoded.specs.Form.{extend_pairs}
use Rattle.oauth2_form.specs.Length.{usize_len}
use Rattle.oauth2_wire.specs.Texts.{param_pair}
use Rattle.oauth2_requests.proofs.query_len.with_extra_params.Given as goal

abbrev pub invariant-loop-name : goal.invariant-loop-name
invariant-loop-name l = (query : List ℕ) → l.initial.len ≡ usize_len query → l.len ≡ usize_len (extend_pairs query (map param_pair (take l.name-index l.extra_params)))
