use Rattle.std.proofs.Common.{ap, ◌∙◌}
use Rattle.std.specs.Prelude.{codes}
use Rattle.http_header.specs.HeaderMap.{insert}
use Rattle.oauth2_adapters.proofs.Headers.{at_ok}
use Rattle.oauth2_adapters.proofs.other_media_types.set_json_type.Goals as goal

pub returns : goal.returns
returns c =
    at_ok c.insert.result c.insert.ensures.ok (c.insert.ensures.replaces c.requires)
    ∙ ap (insert c.args.headers.now (codes "content-type")) c.from_static-json.ensures
