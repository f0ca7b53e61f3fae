use Rattle.std.proofs.Common.{◌≡◌, true}
use Rattle.oauth2_types.specs.Digest.{digest_eq}
use Rattle.oauth2_types.proofs.Digests.{digest_eq-equal}
use Rattle.oauth2_values_tests.proofs.secrets.equal_texts.Goals as goal

pub returns : goal.returns
returns c =
    let same : digest_eq c.args.a.now c.args.b.now ≡ true =
    digest_eq-equal c.args.a.now c.args.b.now c.requires in
    cc
