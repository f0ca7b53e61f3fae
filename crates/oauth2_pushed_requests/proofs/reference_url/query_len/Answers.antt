use Rattle.std.proofs.Common.{◌≡◌, [], length, rules}
use Rattle.std.specs.Prelude.{unwrap_or}
use Rattle.oauth2_form.specs.Length.{usize_len}
use Rattle.oauth2_pushed_requests.proofs.reference_url.query_len.Goals as goal

pub returns : goal.returns
returns c =
    let query = unwrap_or c.args.endpoint.now.query [] in
    let text : c.own_query.result.now ≡ query = c.own_query.ensures in
    let start : length c.own_query.result.now ≡ usize_len query = search (rules, text) in
    c.with_pair.ensures _ (c.with_pair-len.ensures query start)
